use Rattle.std.proofs.Common.{is_some, subst}
use Rattle.cash_amounts.specs.Numbers.{numbered}
use Rattle.commit_journal.specs.Kept.{Kept}
use Rattle.settle_floor.proofs.Appended.{at_work_still}
use Rattle.settle_floor.proofs.HeldFacts.{all_held}
use Rattle.durable_day.specs.Steps.{HasAnswered}
use Rattle.durable_day.proofs.StepFacts.{answered_as}
use Rattle.durable_day.proofs.step.answer.Goals as goal

pub answer-requires-clause-opened : goal.answer-requires-clause-opened
answer-requires-clause-opened c = c.renew_before.ensures.at_work.opened

pub answer-requires-clause-kept : goal.answer-requires-clause-kept
answer-requires-clause-kept c = c.renew_before.ensures.at_work.kept

pub answer-requires-clause-held : goal.answer-requires-clause-held
answer-requires-clause-held c = all_held (λ a. is_some (numbered c.args.till.now a)) c.args.setting.now.day c.renew_before.ensures.at_work.all c.args.want

pub returns-clause-answered : goal.returns-clause-answered
returns-clause-answered c =
    let day = c.args.setting.now.day in
    subst (λ (j : Kept). HasAnswered day j.history c.answer.new.self.journal.history c.args.want c.answer.result) c.renew_before.ensures.journal
    (answered_as day c.renew_before.new.floor c.answer.new.self c.args.want _ _ c.answer.result c.answer.ensures.answered)

pub returns-clause-at_work : goal.returns-clause-at_work
returns-clause-at_work c =
    at_work_still c.args.setting.now.day c.renew_before.new.floor c.answer.new.self (numbered c.args.till.now) (numbered c.answer.new.till) c.renew_before.ensures.at_work c.answer.ensures.opened c.answer.ensures.kept c.answer.ensures.same
