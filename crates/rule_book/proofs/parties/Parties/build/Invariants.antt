use Rattle.std.proofs.Common.{◌≡◌, ◌+◌, ◌*◌, ◌≤◌, ℕ, length, take, true}
use Rattle.std.specs.Prelude.{sum_by}
use Rattle.machine.specs.Records.Messages.{entries_in}
use Rattle.rule_book.specs.Parties.{AreBefore, AreListed, is_informed, owner_numbers}
use Rattle.rule_book.proofs.parties.Parties.build.Given as goal

abbrev pub invariant-loop-before : goal.invariant-loop-before
invariant-loop-before l = record {
  listed : (m : ℕ) → m ≤ l.before → is_informed l.day m ≡ true → AreListed l.day l.parties.keys m;
  earlier : AreBefore (l.before + 1) l.parties.keys;
  numbers : l.parties.numbers ≡ owner_numbers l.day;
  count : length l.parties.keys ≤ 2 * sum_by (λ m. length (entries_in m.body)) (take l.before l.day.messages);
  most : l.parties.most ≡ 2 * sum_by (λ m. length (entries_in m.body)) l.day.messages;
}
