use Rattle.std.proofs.Common.{◌∙◌, ◌+◌, ap, arith, sym}
use Rattle.std.specs.Prelude.{sum_by}
use Rattle.std.proofs.lemmas.List.{take_all}
use Rattle.batch_records.proofs.SoundFacts.{message_parts}
use Rattle.rule_book.specs.Owed.{size_of_b}
use Rattle.rule_book.proofs.Summing.{b_few, b_fit, b_next}
use Rattle.rule_book.proofs.debtor_sums.b_entries.Goals as goal

pub overflow_add-total : goal.overflow_add-total
overflow_add-total c =
    let day = c.args.day.now in
    let fit = b_fit day c.loop-before.before (omega (arith, c.message_count-count.ensures)) in
    let few = b_few day.messages in
    let most = (message_parts day c.requires).few_entries in
    omega (arith, fit, few, most, c.loop-before.invariant, c.b_size-total.ensures)

pub loop-before-preserved : goal.loop-before-preserved
loop-before-preserved c =
    (λ k. c.loop-before.invariant k + c.b_size-total.ensures k) ∙ sym (b_next c.args.day.now c.loop-before.before (omega (arith, c.message_count-count.ensures)))

pub returns : goal.returns
returns c = c.loop-before.invariant ∙ ap (sum_by size_of_b) (take_all c.loop-before.before c.args.day.now.messages (omega (arith, c.message_count-count.ensures)))
