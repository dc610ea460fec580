-- The lines that aren't the day's.
use Rattle.std.specs.Prelude.{ℕ, List, [], ◌∷◌, decimal, codes}
use Rattle.outside_io.specs.TextLine.{text_line}

abbrev pub usage_text : List ℕ
usage_text = codes "usage: live_day run | resume | keep FILE [BYTES] | count FILE | show FILE\n"

-- another program keeps the file
abbrev pub busy_text : List ℕ
busy_text = codes "BUSY\n"

-- the file is foreign, by this frame
abbrev pub foreign_text : ℕ → List ℕ
foreign_text frame = text_line (codes "FOREIGN" ∷ decimal frame ∷ [])

-- what is kept calls for so many bytes
abbrev pub short_text : ℕ → List ℕ
short_text bytes = text_line (codes "SHORT" ∷ decimal bytes ∷ [])
