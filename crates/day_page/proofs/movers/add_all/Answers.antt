use Rattle.std.proofs.Common.{◌∙◌, ◌≤◌, ◌^◌, List, ap, arith, length}
use Rattle.std.proofs.lemmas.List.{take_all}
use Rattle.commit_journal.specs.declared.line.Move.{Move}
use Rattle.day_page.specs.Courses.{turned_by}
use Rattle.day_page.proofs.TurnoverFacts.{small_more, turned_more}
use Rattle.day_page.proofs.movers.add_all.Goals as goal

pub loop-one-init : goal.loop-one-init
loop-one-init c = record { sums = c.requires.none; small = λ a. omega arith }

pub loop-one-preserved : goal.loop-one-preserved
loop-one-preserved c =
    let ms = c.args.moves.now in
    let i = c.loop-one.one-index in
    let few : i ≤ 2 ^ 64 = omega (arith, c.loop-one-test.true) in
    record {
      sums = turned_more ms i c.one-item.result c.get-amount.result (length c.args.sums.now) _ _ _ c.loop-one-test.true c.one-item.is c.get-amount.ensures.value c.get-amount.ensures.within few c.loop-one.invariant.small c.loop-one.invariant.sums c.add_to.ensures c.add_to-in-loop-one.ensures;
      small = λ a. small_more a ms i c.one-item.result c.get-amount.result c.loop-one-test.true c.one-item.is c.get-amount.ensures.value c.get-amount.ensures.within (c.loop-one.invariant.small a);
    }

pub returns : goal.returns
returns c = c.loop-one.invariant.sums ∙ ap (λ (ms : List Move). turned_by ms (length c.args.sums.now)) (take_all c.loop-one.one-index c.args.moves.now (omega (arith, c.loop-one-test.false)))
