use Rattle.std.proofs.Common.{◌≡◌, take}
use Rattle.std.specs.Prelude.{flat_map}
use Rattle.lock_book.specs.Needs.{accounts_in, needs_of}
use Rattle.lock_book.proofs.needs.of_moves.Given as goal

-- of the moves so far
abbrev pub invariant-loop-found : goal.invariant-loop-found
invariant-loop-found l = l.needs ≡ needs_of (flat_map accounts_in (take l.found-index l.moves))
