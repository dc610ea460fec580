-- The moments of a port in memory, by how many bytes had been read and written.
use Rattle.std.specs.Prelude.{ℕ, ◌≤◌, List, [], ◌∷◌, drop, take, Some}
use Rattle.outside_io.specs.Pieces.{Moment}
use Rattle.outside_io.specs.declared.port.Mark.{Mark}

abbrev pub moment_at : List ℕ → List ℕ → Mark → Moment
moment_at bytes written mark = record { left = Some (drop mark.read bytes); written = Some (take mark.written written) }

-- no more had been written than was
abbrev pub AreWithin : ℕ → List Mark → Type 0
AreWithin count [] = Unit {0}
AreWithin count (mark ∷ marks) = (mark.written ≤ count) × AreWithin count marks
