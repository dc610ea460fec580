use Rattle.std.proofs.Common.{arith}
use Rattle.rule_book.proofs.parties.PartiesRoom.take.Goals as goal

pub invariant_of-result : goal.invariant_of-result
invariant_of-result c = record {
  no_keys = c.in_ok-keys.ensures.items;
  none = c.in_ok-own.ensures.items;
  no_numbers = c.in_ok-numbers.ensures.items;
  fits = c.in_ok-keys.ensures.capacity;
  own_fits = omega (arith, c.in_ok-own.ensures.capacity);
  accounts_fit = c.in_ok-numbers.ensures.capacity;
}
