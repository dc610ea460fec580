-- The lines of a text that comes byte by byte, each with its line feed.
use Rattle.std.specs.Prelude.{ℕ, ◌==◌, if◌then◌else◌, List, [], ◌∷◌, ◌++◌}
use Rattle.outside_io.specs.TextLine.{line_feed}

-- those that come whole in a text, where the first has begun with these bytes
unfoldable pub lines_from : List ℕ → List ℕ → List (List ℕ)
lines_from begun [] = []
lines_from begun (b ∷ text) = if b == line_feed then (begun ++ b ∷ []) ∷ lines_from [] text else lines_from (begun ++ b ∷ []) text

-- what has come of the line that is open at its end
unfoldable pub open_from : List ℕ → List ℕ → List ℕ
open_from begun [] = begun
open_from begun (b ∷ text) = open_from (if b == line_feed then [] else begun ++ b ∷ []) text

abbrev pub whole_lines : List ℕ → List (List ℕ)
whole_lines text = lines_from [] text

abbrev pub open_line : List ℕ → List ℕ
open_line text = open_from [] text
