use Rattle.std.proofs.Common.{◌+◌, ◌≤◌, refl, arith, subst, sym}
use Rattle.batch_records.proofs.FrontFacts.{all_enough, enough, moved_few, scan_more, scan_start}
use Rattle.batch_records.specs.declared.front.Spot.{Spot}
use Rattle.batch_records.proofs.front.front_len.Goals as goal

pub moved-spot-requires : goal.moved-spot-requires
moved-spot-requires c = c.loop-i.invariant.few

pub loop-i-init : goal.loop-i-init
loop-i-init c =
    let start = scan_start c.args.part.now c.mark_len-i.result c.mark_len-i.ensures in
    record { scanned = start.0; marked = start.1; few = omega arith }

pub loop-i-preserved : goal.loop-i-preserved
loop-i-preserved c =
    let mark = c.loop-i.invariant.marked in
    let few = c.loop-i.invariant.few in
    let most = subst (λ (s : Spot). s.ended ≤ c.loop-i.spot.ended + 1) (sym c.moved-spot.ensures) (moved_few c.loop-i.spot _) in
    record {
      scanned = scan_more c.args.part.now c.loop-i.i c.loop-i.spot c.moved-spot.result c.loop-i-test.true c.loop-i.invariant.scanned mark c.moved-spot.ensures;
      marked = λ m. let low = mark m in omega (arith, low);
      few = omega (arith, few, most, c.if-spot-eq-TOO_MANY.false);
    }

pub returns-then-spot-eq-TOO_MANY : goal.returns-then-spot-eq-TOO_MANY
returns-then-spot-eq-TOO_MANY c =
    let mark = c.loop-i.invariant.marked in
    let within = c.loop-i-test.true in
    enough c.args.part.now (c.loop-i.i + 1) _ _ (omega (arith, within)) (λ m. let low = mark m in omega (arith, low))
    (scan_more c.args.part.now c.loop-i.i c.loop-i.spot c.moved-spot.result within c.loop-i.invariant.scanned mark c.moved-spot.ensures) c.if-spot-eq-TOO_MANY.true

pub returns : goal.returns
returns c = all_enough c.args.part.now _ refl
