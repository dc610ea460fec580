-- The texts of what a line tells, and of what all lines tell.
use Rattle.std.specs.Prelude.{ℕ, List}
use Rattle.std.specs.List.{flat_map}
use Rattle.batch_records.specs.DayRecord.{Day}
use Rattle.commit_journal.specs.Line.{History}
use Rattle.status_messages.specs.declared.status.Status.{Status}
use Rattle.status_messages.specs.StatusTexts.{status_text}
use Rattle.status_messages.specs.Statuses.{all_statuses}

abbrev pub texts : List Status → List ℕ
texts list = flat_map status_text list

-- the texts of what all lines of a journal tell
abbrev pub statuses_text : Day → History → List ℕ
statuses_text day J = texts (all_statuses day J)
