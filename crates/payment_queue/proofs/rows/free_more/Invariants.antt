use Rattle.std.proofs.Common.{◌≡◌, ◌<◌, ◌≤◌, ℕ, true, length}
use Rattle.number_set.specs.Members.{has}
use Rattle.payment_queue.proofs.rows.free_more.Given as goal

-- those from the first one on are members as far as the loop has come, and the others are what they were
abbrev pub invariant-loop-n : goal.invariant-loop-n
invariant-loop-n l = record {
  size : length l.free.set ≡ length l.initial.free.set;
  room : l.free.room ≡ l.initial.free.room;
  before : (k : ℕ) → k < l.first → has l.free.set k ≡ has l.initial.free.set k;
  members : (k : ℕ) → l.first ≤ k → k < l.n → has l.free.set k ≡ true;
}
