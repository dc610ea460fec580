use Rattle.std.proofs.Common.{◌≡◌, ◌∙◌, ◌++◌, List, [], ap, arith, drop, refl, sym, append-nil}
use Rattle.std.proofs.lemmas.List.{drop_all}
use Rattle.day_page.specs.declared.bars.Mark.{Mark}
use Rattle.day_page.specs.Bars.{changes_from}
use Rattle.day_page.proofs.ChangeFacts.{change_at}
use Rattle.day_page.proofs.bars.put_changes.Goals as goal

pub loop-mark-init : goal.loop-mark-init
loop-mark-init c = refl

pub loop-mark-preserved : goal.loop-mark-preserved
loop-mark-preserved c =
    change_at c.args.n _ _ c.args.marks.now c.loop-mark.mark-index _ _ _ _ c.loop-mark-test.true c.loop-mark.invariant c.in_ok-before.ensures.phase c.in_ok-before.ensures.put

pub returns : goal.returns
unfolding changes_from
returns c =
    let none : drop c.loop-mark.mark-index c.args.marks.now ≡ [] = drop_all c.loop-mark.mark-index c.args.marks.now (omega (arith, c.loop-mark-test.false)) in
    sym (append-nil c.loop-mark.changes.items) ∙ sym (ap (λ (ms : List Mark). c.loop-mark.changes.items ++ changes_from c.args.n c.loop-mark.before ms) none) ∙ c.loop-mark.invariant
