-- Lines of text: fields with a semicolon between each two, and a line feed at the end.
use Rattle.std.specs.Prelude.{ℕ, List, [], ◌∷◌, ◌++◌}
use Rattle.std.specs.List.{join_with_byte}

-- `;`
abbrev pub semicolon : ℕ
semicolon = 59

-- the end of a line
abbrev pub line_feed : ℕ
line_feed = 10

abbrev pub text_line : List (List ℕ) → List ℕ
text_line fields = join_with_byte semicolon fields ++ line_feed ∷ []
