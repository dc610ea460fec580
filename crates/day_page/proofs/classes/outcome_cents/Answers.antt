use Rattle.std.proofs.Common.{◌≡◌, ◌∙◌, ◌+◌, ℕ, ap, arith, length}
use Rattle.std.specs.Prelude.{sum_by}
use Rattle.std.specs.List.{range_with_len}
use Rattle.commit_journal.specs.Histories.{oldest}
use Rattle.day_page.specs.Classes.{outcome_cents, outcome_part}
use Rattle.day_page.proofs.Ranges.{sum_more}
use Rattle.day_page.proofs.classes.outcome_cents.Goals as goal

pub overflow_add-sum : goal.overflow_add-sum
overflow_add-sum c =
    let small = c.loop-before.invariant.small in
    let low = c.outcome_part-sum.ensures.small in
    let few = c.message_count-before-end.ensures.few in
    omega (arith, small, low, few)

pub loop-before-preserved : goal.loop-before-preserved
loop-before-preserved c =
    let J = oldest c.args.past.now.journal.now.history c.args.past.now.place in
    let low = c.outcome_part-sum.ensures.small in
    let small = c.loop-before.invariant.small in
    let at : 1 + c.loop-before.before ≡ c.loop-before.before + 1 = omega arith in
    record {
      sum = sum_more (outcome_part c.args.past.now.setting.now.day c.args.request.now J c.args.class c.args.outcome) 1 c.loop-before.before (c.loop-before.before + 1) c.loop-before.sum c.outcome_part-sum.result _ at c.loop-before.invariant.sum c.outcome_part-sum.ensures.value (λ i. c.loop-before.sum + c.outcome_part-sum.result);
      small = omega (arith, low, small);
    }

pub returns : goal.returns
unfolding outcome_cents
returns c =
    let J = oldest c.args.past.now.journal.now.history c.args.past.now.place in
    let all : c.loop-before.before ≡ length c.args.past.now.setting.now.day.messages = omega (arith, c.message_count-before-end.ensures.count) in
    c.loop-before.invariant.sum ∙ ap (λ (len : ℕ). sum_by (outcome_part c.args.past.now.setting.now.day c.args.request.now J c.args.class c.args.outcome) (range_with_len 1 len)) all
