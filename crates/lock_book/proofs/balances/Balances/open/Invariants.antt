use Rattle.std.proofs.Common.{◌≡◌, length, map, take}
use Rattle.lock_book.proofs.balances.Balances.open.Given as goal

abbrev pub invariant-loop-i : goal.invariant-loop-i
invariant-loop-i l = record {
  count : length l.held.items ≡ l.i;
  openings : l.held.items ≡ map (λ r. r.opening) (take l.i l.setting.book.accounts);
}
