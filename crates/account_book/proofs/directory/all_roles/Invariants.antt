use Rattle.std.proofs.Common.{◌≡◌, ◌≤◌, length, take, map}
use Rattle.std.specs.Vec.{vec_capacity}
use Rattle.account_book.specs.Filed.{roles}
use Rattle.account_book.proofs.directory.all_roles.Given as goal

abbrev pub invariant-loop-system : goal.invariant-loop-system
invariant-loop-system l = (l.all.items ≡ map (roles l.accounts) (take l.system-index l.systems)) × (length l.systems ≤ vec_capacity l.all)
