use Rattle.std.proofs.Common.{◌≡◌, ℕ, ◌+◌, ◌-◌, length}
use Rattle.day_chain.specs.DayEnds.{set_aside}
use Rattle.day_chain.specs.Summing.{asides_to, HaveRoom}
use Rattle.day_chain.proofs.ledger.add_asides.Given as goal

abbrev pub invariant-loop-before : goal.invariant-loop-before
invariant-loop-before l = record {
  same : l.sums ≡ asides_to (set_aside l.settled.setting.day) l.before l.initial.sums;
  room : (n : ℕ) → HaveRoom (n + length l.settled.setting.day.accounts) l.initial.sums → HaveRoom (n + (length l.settled.setting.day.accounts - l.before)) l.sums;
}
