use Rattle.std.proofs.Common.{◌≡◌, ◌≤◌, length, take, map}
use Rattle.std.specs.Vec.{vec_capacity}
use Rattle.account_book.proofs.till.OneTill.in_room.Given as goal

abbrev pub invariant-loop-i : goal.invariant-loop-i
invariant-loop-i l = (l.balances.items ≡ map (λ r. r.opening) (take l.i l.book.accounts)) × (length l.book.accounts ≤ vec_capacity l.balances)
