use Rattle.std.proofs.Common.{◌∙◌, Some, None}
use Rattle.day_chain.specs.NextDay.{is_next}
use Rattle.day_chain.proofs.JoinFacts.{fault_gap, fault_open, fault_setup, openings_by, same_setup}
use Rattle.day_chain.proofs.joining.fault_between.Goals as goal

pub returns-then-not-is_next : goal.returns-then-not-is_next
returns-then-not-is_next c = λ last left. fault_gap last c.args.day.now (c.if-not-is_next.ensures ∙ (λ i. is_next (left.date i) (c.date.ensures i)))

pub returns-in-Some : goal.returns-in-Some
returns-in-Some c = λ last left.
    fault_setup last c.args.day.now c.in-Some.account (c.if-not-is_next.ensures ∙ (λ i. is_next (left.date i) (c.date.ensures i))) (c.in-Some.ensures ∙ same_setup last c.args.day.now c.args.before.now left)

pub returns-in-Some-other_opening : goal.returns-in-Some-other_opening
returns-in-Some-other_opening c = λ last left.
    let same = c.in_default.ensures ∙ same_setup last c.args.day.now c.args.before.now left in
    fault_open last c.args.day.now (Some c.in-Some-other_opening.account) (c.if-not-is_next.ensures ∙ (λ i. is_next (left.date i) (c.date.ensures i))) same (c.in-Some-other_opening.ensures ∙ openings_by last c.args.day.now c.args.before.now left same)

pub returns-in-None : goal.returns-in-None
returns-in-None c = λ last left.
    let same = c.in_default.ensures ∙ same_setup last c.args.day.now c.args.before.now left in
    fault_open last c.args.day.now None (c.if-not-is_next.ensures ∙ (λ i. is_next (left.date i) (c.date.ensures i))) same (c.in-None.ensures ∙ openings_by last c.args.day.now c.args.before.now left same)
