use Rattle.std.proofs.Common.{◌≡◌, ◌+◌, ◌*◌, ◌≤◌, ℕ, false, true}
use Rattle.std.specs.Prelude.{nat_eq, option_map, vec_capacity, vec_len}
use Rattle.machine.specs.Records.Messages.{entry_at, move_of}
use Rattle.rule_book.specs.Parties.{Adds, is_joined, is_listed, key}
use Rattle.rule_book.proofs.parties.push_entries.Given as goal

abbrev pub invariant-loop-before : goal.invariant-loop-before
invariant-loop-before l = record {
  own : (k b : ℕ) → nat_eq b 0 ≡ false → k ≤ l.before → is_joined l.numbers b (option_map (move_of l.day) (entry_at l.day l.n k)) ≡ true → is_listed l.keys.items (key l.n b k) ≡ true;
  more : Adds l.n l.initial.keys.items l.keys.items;
  len : vec_len l.keys ≤ vec_len l.initial.keys + 2 * l.before;
  capacity : vec_capacity l.keys ≡ vec_capacity l.initial.keys;
}
