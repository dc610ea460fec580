use Rattle.std.proofs.Common.{◌+◌, ◌≤◌, take, length}
use Rattle.indexmap.specs.IndexMap.{spare}
use Rattle.account_book.specs.Filed.{Agree, system_hashed, number_at}
use Rattle.account_book.proofs.directory.system_numbers.Given as goal

abbrev pub invariant-loop-i : goal.invariant-loop-i
invariant-loop-i l = Agree (number_at l.directory) (system_hashed l.hasher (take l.i l.systems)) × (length l.systems ≤ spare l.directory.numbers + l.i)
