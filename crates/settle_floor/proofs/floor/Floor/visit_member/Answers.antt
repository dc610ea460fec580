use Rattle.std.proofs.Common.{◌∙◌, ap}
use Rattle.scan_laws.specs.Runs.{flat_step}
use Rattle.ready_items.proofs.MemberFacts.{member_within}
use Rattle.settle_floor.proofs.MemberRuns.{at_work_with, history_with}
use Rattle.settle_floor.proofs.floor.Floor.visit_member.Goals as goal

pub pass_member-requires-clause-opened : goal.pass_member-requires-clause-opened
pass_member-requires-clause-opened g c = c.requires.at_work.opened

pub visit-requires-clause-at_work : goal.visit-requires-clause-at_work
visit-requires-clause-at_work g c = at_work_with c.args.setting.now.day c.args.self.now c.pass_member.new.self _ c.requires.at_work c.pass_member.ensures.same c.pass_member.ensures.ready

pub visit-requires-clause-within : goal.visit-requires-clause-within
visit-requires-clause-within g c = member_within c.args.setting.now.day c.args.self.now.journal.history c.args.self.now.index.ready c.args.number c.requires.at_work.opened.index.ready c.requires.next.passes

pub returns-clause-lines : goal.returns-clause-lines
returns-clause-lines g c = c.visit.ensures.lines ∙ ap (λ J. flat_step c.args.setting.now.day J c.args.number) (history_with c.args.self.now c.pass_member.new.self c.pass_member.ensures.same)

pub returns-clause-at_work : goal.returns-clause-at_work
returns-clause-at_work g c = c.visit.ensures.at_work
