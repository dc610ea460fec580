-- What the recovery of a store finds on its disk.
use Rattle.std.specs.Prelude.{◌≡◌, ℕ, suc, ◌+◌, ◌≤◌, true, false, List, ◌∷◌, length, drop, Some, None}
use Rattle.batch_records.specs.DayRecord.{Day}
use Rattle.commit_journal.specs.Line.{Line, History}
use Rattle.durable_day.specs.declared.reading.Entry.{Entry}
use Rattle.durable_day.specs.declared.reading.Entry.TheVariants as entries
use Rattle.durable_day.specs.declared.recovery.Found.{Found}
use Rattle.durable_day.specs.declared.recovery.Found.TheVariants as founds
use Rattle.durable_day.specs.Bytes.{stored, next_stored, front, is_closed}

-- In front stands the machine's line after the history, which `later` has; or a closed gate; or neither of them.
abbrev pub IsNext : Day → History → List ℕ → History → Entry → Type 0
IsNext day J bytes later (entries.Text count) =
    (l : Line) × (next_stored day J bytes ≡ Some (l, drop (5 + count) bytes)) × (later ≡ l ∷ J) × (5 + count ≤ length bytes)
IsNext day J bytes later entries.Closed = (is_closed bytes ≡ true) × (later ≡ J)
IsNext day J bytes later entries.Neither = (is_closed bytes ≡ false) × (next_stored day J bytes ≡ None)

-- the bytes stand for the journal, whose gate stands at this place; or their front ends at no gate, at this place of a line
abbrev pub IsFound : Day → List ℕ → History → Found → Type 0
IsFound day bytes J (founds.Stands end) =
    (is_closed (front day bytes).1 ≡ true) × (J ≡ (front day bytes).0) × (end ≡ length (stored J))
IsFound day bytes J (founds.Foreign place) =
    (is_closed (front day bytes).1 ≡ false) × (place ≡ suc (length (front day bytes).0))
