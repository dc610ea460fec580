use Rattle.std.proofs.Common.{◌∙◌, arith, refl}
use Rattle.day_page.proofs.ExtentMoves.{credit_more, credits_done, small_done, small_more}
use Rattle.day_page.proofs.extents.credit_all.Goals as goal

pub loop-one-init : goal.loop-one-init
loop-one-init c = record { value = refl; small = λ a. omega arith }

pub loop-one-preserved : goal.loop-one-preserved
loop-one-preserved c =
    let ms = c.args.moves.now in
    let i = c.loop-one.one-index in
    record {
      value = credit_more ms i c.one-item.result _ _ _ c.loop-one-test.true c.one-item.is c.get.ensures.value c.raise.ensures ∙ c.loop-one.invariant.value;
      small = λ a. small_more a ms i c.one-item.result _ c.loop-one-test.true c.one-item.is c.get.ensures.value c.get.ensures.within (c.loop-one.invariant.small a);
    }

pub returns-clause-value : goal.returns-clause-value
returns-clause-value c = credits_done c.args.moves.now c.loop-one.one-index c.loop-one.extents (omega (arith, c.loop-one-test.false)) ∙ c.loop-one.invariant.value

pub returns-clause-small : goal.returns-clause-small
returns-clause-small c = λ a. small_done a c.args.moves.now c.loop-one.one-index (omega (arith, c.loop-one.auto.one-index-end)) (omega (arith, c.loop-one-test.false)) (c.loop-one.invariant.small a)
