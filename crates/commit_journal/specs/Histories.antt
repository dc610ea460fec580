-- Beginnings of histories, and their moves.
use Rattle.std.specs.Prelude.{◌≡◌, ℕ, List, [], ◌∷◌, ◌++◌, ◌-◌, drop, length}
use Rattle.commit_journal.specs.declared.line.Move.{Move}
use Rattle.commit_journal.specs.Line.{History}

-- the first is the beginning of the second
abbrev pub Begins : History → History → Type 0
Begins P J = (more : History) × (J ≡ more ++ P)

-- the history of the first i lines
abbrev pub oldest : History → ℕ → History
oldest J i = drop (length J - i) J

-- the moves, in the order in which they were made
unfoldable pub moves_of : History → List Move
moves_of [] = []
moves_of (l ∷ J) = moves_of J ++ l.moves
