use Rattle.std.proofs.Common.{◌≡◌, ℕ, ◌<◌, false}
use Rattle.payment_queue.specs.Queued.{is_row_of, row_in}
use Rattle.payment_queue.proofs.rows.find.Given as goal

abbrev pub invariant-loop-slot : goal.invariant-loop-slot
invariant-loop-slot l = (u : ℕ) → u < l.slot → is_row_of l.account l.item (row_in l.rows u) ≡ false
