use Rattle.std.proofs.Common.{subst}
use Rattle.live_day.specs.Stages.{IsAt}
use Rattle.live_day.specs.declared.stage.Stage.{Stage}
use Rattle.live_day.proofs.StageFacts.{ready_at_end}
use Rattle.live_day.proofs.stage.StageHearer.end.Goals as goal

pub open-requires : goal.open-requires
open-requires g c = (c.requires.0, ready_at_end c.args.self.now c.in-Early.setup c.in-Early.rooms c.requires.0 c.in-Early.is c.requires.1 c.requires.2)

pub end_work-requires : goal.end_work-requires
end_work-requires g c = (c.requires.0, c.open.ensures c.requires.0 (ready_at_end c.args.self.now c.in-Early.setup c.in-Early.rooms c.requires.0 c.in-Early.is c.requires.1 c.requires.2))

pub returns-in-Early : goal.returns-in-Early
returns-in-Early g c = λ records at last.
    c.end_work.ensures records (c.open.ensures records (ready_at_end c.args.self.now c.in-Early.setup c.in-Early.rooms records c.in-Early.is at last))

pub returns-in-Late : goal.returns-in-Late
returns-in-Late g c = λ records at last.
    let late = subst (λ (s : Stage). IsAt s records) c.in-Late.is at in
    c.end.ensures records late.0
