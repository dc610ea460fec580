-- What a run that goes on is told first, in its form.
use Rattle.std.specs.Prelude.{ℕ, List, ◌∷◌, ◌++◌, length, codes, decimal}
use Rattle.live_day.specs.Resumed.{Before}

-- bytes after a line of this word, a semicolon, and how many they are
abbrev pub counted_text : List ℕ → List ℕ → List ℕ → List ℕ
counted_text word bytes rest = (word ++ codes ";") ++ (decimal (length bytes) ++ (10 ∷ (bytes ++ rest)))

-- what had been read and what had been written, and what comes from then on
abbrev pub before_text : Before → List ℕ
before_text b = counted_text (codes "RECORDS") b.read (counted_text (codes "OUTPUT") b.written b.rest)
