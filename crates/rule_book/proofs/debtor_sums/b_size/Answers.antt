use Rattle.std.proofs.Common.{◌∙◌, ap, length, sym}
use Rattle.rule_book.proofs.Summing.{b_all, b_none}
use Rattle.rule_book.proofs.debtor_sums.b_size.Goals as goal

pub returns-then-is_b_of : goal.returns-then-is_b_of
returns-then-is_b_of c = ap length c.entries.ensures ∙ b_all c.args.day.now c.args.n (sym c.is_b_of.ensures ∙ c.if-is_b_of.true)

pub returns-else-is_b_of : goal.returns-else-is_b_of
returns-else-is_b_of c = b_none c.args.day.now c.args.n (sym c.is_b_of.ensures ∙ c.if-is_b_of.false)
