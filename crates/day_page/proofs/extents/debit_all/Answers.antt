use Rattle.std.proofs.Common.{◌∙◌, arith}
use Rattle.day_page.proofs.ExtentMoves.{debit_more, debits_done}
use Rattle.day_page.proofs.extents.debit_all.Goals as goal

pub loop-one-preserved : goal.loop-one-preserved
loop-one-preserved c = debit_more c.args.moves.now c.loop-one.one-index c.one-item.result _ _ _ c.loop-one-test.true c.one-item.is c.get.ensures.value c.lower.ensures ∙ c.loop-one.invariant

pub returns : goal.returns
returns c = debits_done c.args.moves.now c.loop-one.one-index c.loop-one.extents (omega (arith, c.loop-one-test.false)) ∙ c.loop-one.invariant
