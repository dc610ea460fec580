use Rattle.std.proofs.Common.{ap}
use Rattle.settle_floor.specs.Floors.{OnFloor}
use Rattle.settle_floor.proofs.MemberRuns.{at_work_with}
use Rattle.settle_floor.proofs.floor.Floor.renew.Goals as goal

pub returns-clause-journal : goal.returns-clause-journal
returns-clause-journal g c = ap (λ (f : OnFloor). f.journal) c.go_on_from.ensures.same

pub returns-clause-at_work : goal.returns-clause-at_work
returns-clause-at_work g c = at_work_with c.args.setting.now.day c.args.self.now c.go_on_from.new.self _ c.requires.at_work c.go_on_from.ensures.same c.go_on_from.ensures.ready
