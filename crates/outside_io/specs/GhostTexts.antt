-- Texts that clauses alone see.
use Rattle.std.specs.Prelude.{ℕ, List, [], ◌∷◌, ◌++◌}
use Rattle.outside_io.specs.declared.ghost_text.GhostText.{GhostText, Nothing, More'}

-- the bytes of a text, in the order in which they came
abbrev pub bytes_of : GhostText → List ℕ
bytes_of Nothing = []
bytes_of (More' marker before byte) = bytes_of before ++ byte ∷ []
