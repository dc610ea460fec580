-- The times at which items of a message may become pending, or cease to be, as they are kept: by the number of the message the first one that
-- the clock hasn't come to.
use Rattle.std.specs.Prelude.{◌≡◌, ℕ, ◌+◌, ◌<◌, ◌≤◌, Bool, false, true, ◌||◌, if◌then◌else◌, List, map, Option, Some, None, length, nat_eq, nat_lt}
use Rattle.std.specs.List.{range_with_len}
use Rattle.batch_records.specs.DayRecord.{Day}
use Rattle.commit_journal.specs.Line.{History}
use Rattle.machine.specs.Words.{some_passes}
use Rattle.machine.specs.Records.Messages.{earliest, info_end, settlement_end}
use Rattle.machine.specs.Telling.History.{clock}
use Rattle.least_tree.specs.Amounts.{amount_at, fits_at, least}

-- the times, and for how many more there is room
pub record EndTimes : Type 0 where
  pub times : List (Option ℕ)
  pub room : ℕ

-- whether the time is an end of message n
abbrev pub is_end_of : Day → ℕ → ℕ → Bool
is_end_of day n time = some_passes (nat_eq time) (info_end day n) || some_passes (nat_eq time) (earliest day n) || nat_eq time (settlement_end day n) || nat_eq time 86400

-- the end, where it comes after a time
abbrev pub later : ℕ → Option ℕ → Option ℕ
later time None = None
later time (Some end) = if nat_lt time end then Some end else None

-- the first end of message n after a time
abbrev pub next_end : Day → ℕ → ℕ → Option ℕ
next_end day n time =
    least (least (least (later time (info_end day n)) (later time (earliest day n))) (later time (Some (settlement_end day n)))) (later time (Some 86400))

-- those of the first so many numbers are the first ends
pub record AreFirst (day : Day) (ends : List (Option ℕ)) : Type 0 where
  pub size : length ends ≡ length day.messages + 1
  pub each : (n : ℕ) → n < length ends → amount_at ends n ≡ next_end day n 0

-- of the numbers from 0 to n the first ends after a time
abbrev pub ends_upto : Day → ℕ → ℕ → List (Option ℕ)
ends_upto day n time = map (λ i. next_end day i time) (range_with_len 0 (n + 1))

-- the clock came to a time: where an end was reached the next one stands
abbrev pub moved_end : Day → ℕ → List (Option ℕ) → ℕ → Option ℕ
moved_end day time ends n = if fits_at ends time n then next_end day n time else amount_at ends n

pub record AreMoved (day : Day) (time : ℕ) (old new : List (Option ℕ)) : Type 0 where
  pub size : length new ≡ length old
  pub each : (n : ℕ) → amount_at new n ≡ moved_end day time old n

-- message n had an end at the time or before it, and has none now
abbrev pub IsMovedOn : ℕ → List (Option ℕ) → List (Option ℕ) → ℕ → Type 0
IsMovedOn time old new n = (fits_at old time n ≡ true) × (fits_at new time n ≡ false)

-- of some numbers whose end was reached the next one stands already: what they come to is the same
pub record AreMovedOn (day : Day) (time : ℕ) (old new : List (Option ℕ)) : Type 0 where
  pub size : length new ≡ length old
  pub each : (n : ℕ) → moved_end day time new n ≡ moved_end day time old n

-- no end of a message up to n that the clock hasn't come to is passed over: what is kept of the message is at most that end
pub record AreEndsUpto (day : Day) (n : ℕ) (J : History) (ends : List (Option ℕ)) : Type 0 where
  pub size : length ends ≡ n + 1
  pub each : (i end : ℕ) → i ≤ n → is_end_of day i end ≡ true → clock J < end → fits_at ends end i ≡ true

abbrev pub AreEnds : Day → History → List (Option ℕ) → Type 0
AreEnds day J ends = AreEndsUpto day (length day.messages) J ends
