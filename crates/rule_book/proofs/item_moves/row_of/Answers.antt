use Rattle.std.proofs.Common.{◌∙◌, arith, sym}
use Rattle.rule_book.proofs.LastRows.{row_got, row_none}
use Rattle.rule_book.proofs.item_moves.row_of.Goals as goal

pub returns-then-n-eq0 : goal.returns-then-n-eq0
returns-then-n-eq0 c = sym (row_none c.args.rows.now.rows c.args.n c.if-n-eq0.true)

pub returns : goal.returns
returns c = c.row.ensures ∙ row_got c.args.rows.now.rows c.args.n (omega (arith, c.if-n-eq0.false))
