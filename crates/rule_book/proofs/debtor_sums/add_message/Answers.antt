use Rattle.std.proofs.Common.{◌∙◌, arith, sym}
use Rattle.rule_book.proofs.Summing.{b_all, clash}
use Rattle.rule_book.proofs.debtor_sums.add_message.Goals as goal

pub add_entries-requires-clause-room : goal.add_entries-requires-clause-room
add_entries-requires-clause-room c = omega (arith, b_all c.args.day.now c.args.n (sym c.is_b_of.ensures ∙ c.if-is_b_of.true), c.requires.room)

pub returns-then-is_b_of-clause-own : goal.returns-then-is_b_of-clause-own
returns-then-is_b_of-clause-own c = λ h. c.add_entries.ensures.own

pub returns-then-is_b_of-clause-count : goal.returns-then-is_b_of-clause-count
returns-then-is_b_of-clause-count c = omega (arith, b_all c.args.day.now c.args.n (sym c.is_b_of.ensures ∙ c.if-is_b_of.true), c.add_entries.ensures.count)

pub returns-else-is_b_of-clause-own : goal.returns-else-is_b_of-clause-own
returns-else-is_b_of-clause-own c = λ b. absurd (clash _ b (sym c.is_b_of.ensures ∙ c.if-is_b_of.false))
