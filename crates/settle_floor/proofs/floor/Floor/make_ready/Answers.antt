use Rattle.std.proofs.Common.{◌≡◌, ◌∙◌, false, Some, sym, subst}
use Rattle.commit_journal.specs.Line.{History}
use Rattle.machine.specs.Telling.History.{is_ended}
use Rattle.settle_floor.specs.NextLines.{MakesReady}
use Rattle.settle_floor.proofs.MemberRuns.{at_work_with, history_with}
use Rattle.settle_floor.proofs.floor.Floor.make_ready.Goals as goal

pub make_member-requires-clause-at_work : goal.make_member-requires-clause-at_work
make_member-requires-clause-at_work g c = at_work_with c.args.setting.now.day c.args.self.now c.go_on_from.new.self _ c.requires.at_work c.go_on_from.ensures.same c.go_on_from.ensures.ready

pub returns-in-Some-clause-made : goal.returns-in-Some-clause-made
returns-in-Some-clause-made g c =
    subst (λ (J : History). MakesReady c.args.setting.now.day J c.make_member.new.self.journal.history (Some c.in-Some.place)) (history_with c.args.self.now c.go_on_from.new.self c.go_on_from.ensures.same) c.in-Some.ensures.made

pub make_candidate-requires-clause-lasts : goal.make_candidate-requires-clause-lasts
make_candidate-requires-clause-lasts g c =
    subst (λ (J : History). is_ended J ≡ false) (sym (c.in-None.ensures.made ∙ history_with c.args.self.now c.go_on_from.new.self c.go_on_from.ensures.same)) c.requires.lasts

pub returns-in-None-clause-made : goal.returns-in-None-clause-made
returns-in-None-clause-made g c =
    subst (λ (J : History). MakesReady c.args.setting.now.day J c.make_candidate.new.self.journal.history c.make_candidate.result) (c.in-None.ensures.made ∙ history_with c.args.self.now c.go_on_from.new.self c.go_on_from.ensures.same) c.make_candidate.ensures.made
