use Rattle.std.proofs.Common.{◌≡◌, ◌+◌, ◌++◌, map, take}
use Rattle.std.specs.Prelude.{vec_capacity, vec_len}
use Rattle.rule_book.specs.Parties.{bank_number}
use Rattle.rule_book.proofs.parties.push_owners.Given as goal

abbrev pub invariant-loop-account : goal.invariant-loop-account
invariant-loop-account l = record {
  items : l.numbers.items ≡ l.initial.numbers.items ++ map (λ r. bank_number l.day r.owner) (take l.account-index l.accounts);
  len : vec_len l.numbers ≡ vec_len l.initial.numbers + l.account-index;
  capacity : vec_capacity l.numbers ≡ vec_capacity l.initial.numbers;
}
