use Rattle.std.proofs.Common.{◌≡◌, ◌+◌, ◌++◌, take}
use Rattle.std.specs.Prelude.{vec_capacity, vec_len}
use Rattle.rule_book.proofs.parties.append.Given as goal

abbrev pub invariant-loop-key : goal.invariant-loop-key
invariant-loop-key l = record {
  items : l.keys.items ≡ l.initial.keys.items ++ take l.key-index l.more;
  len : vec_len l.keys ≡ vec_len l.initial.keys + l.key-index;
  capacity : vec_capacity l.keys ≡ vec_capacity l.initial.keys;
}
