use Rattle.std.proofs.Common.{◌+◌, ◌∙◌, ap, length, arith}
use Rattle.std.proofs.lemmas.List.{length_push}
use Rattle.account_book.specs.Setup.{Setup}
use Rattle.account_book.proofs.Answered.{openings-more}
use Rattle.lock_book.proofs.balances.Balances.open.Goals as goal

pub loop-i-preserved : goal.loop-i-preserved
loop-i-preserved c = record {
  count = ap length c.in_ok-push.ensures.items ∙ (length_push _ _ ∙ ap (λ n. n + 1) c.loop-i.invariant.count);
  openings =
      let filed = ap (λ (b : Setup). length b.accounts) c.args.setting.now.filed in
      let next = openings-more c.args.setting.now.book.accounts c.loop-i.i (omega (arith, filed, c.account_count-count.ensures.count)) in
      cc (c.in_ok-push.ensures.items);
}
