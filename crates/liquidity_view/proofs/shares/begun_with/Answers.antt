use Rattle.std.proofs.Common.{◌≡◌, ◌∙◌, ◌+◌, arith}
use Rattle.liquidity_view.specs.Figures.{opening_of}
use Rattle.liquidity_view.proofs.Sums.{sum_more}
use Rattle.liquidity_view.proofs.shares.begun_with.Goals as goal

pub loop-before-preserved : goal.loop-before-preserved
loop-before-preserved c =
    let from : c.from-sum.result ≡ c.own_opening.result = c.from-sum.ensures in
    let low = c.own_opening.ensures.small in
    let small = c.loop-before.invariant.small in
    record {
      sum = sum_more (opening_of c.args.setting.now.day c.args.name.now) 1 c.loop-before.before (c.loop-before.before + 1) c.loop-before.sum c.from-sum.result _ (omega arith) c.loop-before.invariant.sum (from ∙ c.own_opening.ensures.value) (λ i. c.loop-before.sum + c.from-sum.result);
      small = omega (arith, from, low, small);
    }
