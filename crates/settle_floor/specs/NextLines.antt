-- The line of a want, made or not; and that of the first want that is ready.
use Rattle.std.specs.Prelude.{ℕ, ◌≡◌, ◌∷◌, Option, Some, None, length}
use Rattle.batch_records.specs.DayRecord.{Day}
use Rattle.commit_journal.specs.declared.line.Want.{Want}
use Rattle.commit_journal.specs.Line.{History, Line}
use Rattle.machine.specs.Making.FirstReady.{first_ready}
use Rattle.machine.specs.Making.Lines.{line_of}

-- the line of the want is the newest, at this place; or the want has none, and the lines are as before
abbrev pub MakesWant : Day → History → History → Want → Option ℕ → Type 0
MakesWant day J K want (Some place) = (l : Line) × (line_of day J want ≡ Some l) × (K ≡ l ∷ J) × (place ≡ length K)
MakesWant day J K want None = (line_of day J want ≡ None) × (K ≡ J)

-- the line of the first want that is ready is the newest, at this place; or nothing is ready, and the lines are as before
abbrev pub MakesReady : Day → History → History → Option ℕ → Type 0
MakesReady day J K (Some place) = (want : Want) × (first_ready day J ≡ Some want) × MakesWant day J K want (Some place)
MakesReady day J K None = (first_ready day J ≡ None) × (K ≡ J)

-- the same, where it is not known whether something is ready if no line was made
abbrev pub MayMakeReady : Day → History → History → Option ℕ → Type 0
MayMakeReady day J K (Some place) = MakesReady day J K (Some place)
MayMakeReady day J K None = K ≡ J
