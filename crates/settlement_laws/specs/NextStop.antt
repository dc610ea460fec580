-- What the next stop of the clock is: the least one above it.
use Rattle.std.specs.Prelude.{ℕ, ◌≡◌, ◌<◌, ◌≤◌, ◌⊎◌, true, Some}
use Rattle.period_calendar.specs.declared.time.TheConstants.{MIDNIGHT}
use Rattle.batch_records.specs.DayRecord.{Day}
use Rattle.commit_journal.specs.Line.{History}
use Rattle.machine.specs.Records.Messages.{sort_of, is_batch, info_end, earliest, stated_end}
use Rattle.machine.specs.Telling.History.{clock, is_accepted}
use Rattle.machine.specs.Making.Lines.{next_stop}
use Rattle.machine.specs.OtherLaws.{is_among}

-- the day states it
abbrev pub IsStatedStop : Day → ℕ → Type 0
IsStatedStop day t = is_among day.stops t ≡ true

-- message n states it as its information end, as its earliest time or as its settlement end
abbrev pub IsEndOf : Day → ℕ → ℕ → Type 0
IsEndOf day n t = (info_end day n ≡ Some t) ⊎ ((earliest day n ≡ Some t) ⊎ (stated_end day n ≡ Some t))

-- an accepted batch states it
abbrev pub IsBatchEnd : Day → History → ℕ → Type 0
IsBatchEnd day J t = (n : ℕ) × (is_batch (sort_of day n) ≡ true) × (is_accepted J n ≡ true) × IsEndOf day n t

-- midnight, which is also the end of a batch that states none; a stop that the day states; a time that an accepted batch states
abbrev pub IsStop : Day → History → ℕ → Type 0
IsStop day J t = (t ≡ MIDNIGHT) ⊎ (IsStatedStop day t ⊎ IsBatchEnd day J t)

-- the next stop is a stop; before midnight it is above the clock; and no stop above the clock is below it
abbrev pub NextStopIsTheLeast : Day → History → Type 0
NextStopIsTheLeast day J =
    IsStop day J (next_stop day J)
    × (clock J < MIDNIGHT → clock J < next_stop day J)
    × ((t : ℕ) → IsStop day J t → clock J < t → next_stop day J ≤ t)
