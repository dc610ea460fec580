-- The statuses of the line at a place, for contracts.
use Rattle.std.specs.Prelude.{ℕ, ◌-◌, List, [], ◌∷◌, drop, length}
use Rattle.batch_records.specs.DayRecord.{Day}
use Rattle.commit_journal.specs.Line.{History}
use Rattle.status_messages.specs.declared.status.Status.{Status}
use Rattle.status_messages.specs.Statuses.{statuses}

-- those of the newest line
abbrev pub newest_statuses : Day → History → List Status
newest_statuses day [] = []
newest_statuses day (l ∷ J) = statuses day J l

-- those of the line at this place of the journal
abbrev pub statuses_at : Day → History → ℕ → List Status
statuses_at day J place = newest_statuses day (drop (length J - place) J)
