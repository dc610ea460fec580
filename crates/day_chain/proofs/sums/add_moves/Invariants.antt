use Rattle.std.proofs.Common.{◌≡◌, ℕ, ◌+◌, ◌*◌, ◌-◌, length, drop}
use Rattle.day_chain.specs.Summing.{HaveRoom, with_moves}
use Rattle.day_chain.proofs.sums.add_moves.Given as goal

abbrev pub invariant-loop-one : goal.invariant-loop-one
invariant-loop-one l = record {
  same : with_moves (drop l.one-index l.moves) l.sums ≡ with_moves l.moves l.initial.sums;
  room : (n : ℕ) → HaveRoom (n + 2 * length l.moves) l.initial.sums → HaveRoom (n + 2 * (length l.moves - l.one-index)) l.sums;
}
