use Rattle.std.proofs.Common.{◌≡◌, ◌≤◌, length, take}
use Rattle.std.specs.Vec.{vec_capacity}
use Rattle.account_book.proofs.copies.copy_systems.Given as goal

abbrev pub invariant-loop-system : goal.invariant-loop-system
invariant-loop-system l = (l.copies.items ≡ take l.system-index l.systems) × (length l.systems ≤ vec_capacity l.copies)
