use Rattle.std.proofs.Common.{◌∙◌, ap, subst, sym}
use Rattle.commit_journal.specs.Kept.{Kept}
use Rattle.cash_amounts.specs.Numbers.{numbered}
use Rattle.outside_io.proofs.PutLemmas.{puts_first, puts_then}
use Rattle.settle_floor.specs.Floors.{IsBalanced}
use Rattle.closing_balances.specs.Closing.{closing_text}
use Rattle.live_day.proofs.BehindFacts.{puts_is}
use Rattle.live_day.proofs.LiveFloorFacts.{over_balanced, over_closing}
use Rattle.live_day.proofs.live_floor.LiveFloor.end.Goals as goal

pub returns-in_err-finish : goal.returns-in_err-finish
returns-in_err-finish g c = puts_first _ _ _ _ _ _ c.from_residual.ensures.0 c.in_err-finish.ensures.texts

pub put_closing-requires : goal.put_closing-requires
put_closing-requires g c = record {
  balanced = subst (λ (j : Kept). IsBalanced c.args.setting.now.day j (numbered c.finish.new.self.till)) (sym c.journal.ensures) (over_balanced c.args.setting.now.day c.finish.new.self c.in_ok-finish.ensures.over);
}

pub returns : goal.returns
returns g c =
    puts_then _ _ _ _ _ _ _ c.in_ok-finish.ensures.texts
    (puts_is _ _ _ _ _ (ap (λ (j : Kept). closing_text c.args.setting.now.day j.history) c.journal.ensures ∙ over_closing c.args.setting.now.day c.finish.new.self c.args.setting.now.sound c.in_ok-finish.ensures.over) c.put_closing.ensures)
