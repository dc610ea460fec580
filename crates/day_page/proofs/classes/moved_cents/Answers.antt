use Rattle.std.proofs.Common.{◌+◌, arith}
use Rattle.commit_journal.specs.declared.line.Move.{Move}
use Rattle.day_page.proofs.Ranges.{sum_item}
use Rattle.day_page.proofs.classes.moved_cents.Goals as goal

pub overflow_add-sum : goal.overflow_add-sum
overflow_add-sum c =
    let small = c.loop-one.invariant.small in
    let low = c.cents.ensures.small in
    let same = c.from-sum.ensures in
    let inside = c.loop-one-test.true in
    let few = c.requires.few in
    omega (arith, small, low, same, inside, few)

pub loop-one-preserved : goal.loop-one-preserved
loop-one-preserved c =
    let small = c.loop-one.invariant.small in
    let low = c.cents.ensures.small in
    let same = c.from-sum.ensures in
    let value = c.cents.ensures.value in
    record {
      sum = sum_item (λ (m : Move). m.amount) c.args.moves.now _ _ c.loop-one.sum c.from-sum.result _ c.loop-one-test.true c.one-item.is c.loop-one.invariant.sum (omega (arith, same, value)) (λ i. c.loop-one.sum + c.from-sum.result);
      small = omega (arith, small, low, same);
    }
