-- The order without workers: messages in file order, scans over the items until nothing is made, then time.
use Rattle.std.specs.Prelude.{ℕ, zero, suc, Bool, true, false, ◌||◌, if◌then◌else◌, [], ◌∷◌, Option, Some, None, nat_eq, nat_lt, length}
use Rattle.period_calendar.specs.declared.time.TheConstants.{MIDNIGHT}
use Rattle.batch_records.specs.DayRecord.{Day}
use Rattle.commit_journal.specs.declared.line.Want.{Want}
use Rattle.commit_journal.specs.declared.line.Want.TheVariants as wants
use Rattle.commit_journal.specs.Line.{Line, History}
use Rattle.machine.specs.Records.Messages.{entries}
use Rattle.machine.specs.Telling.History.{is_ended, clock}
use Rattle.machine.specs.Telling.Facts.{round}
use Rattle.machine.specs.Making.Lines.{line_of, item_want}
use Rattle.machine.specs.Orders.Bounds.{left}

-- ---- words of runs

abbrev pub with_line : Option Line → History → History
with_line None J = J
with_line (Some l) J = l ∷ J

-- a want adds its line, or nothing
unfoldable pub append : Day → History → Want → History
append day J want = with_line (line_of day J want) J

-- a step for each number below n, in rising order
unfoldable pub one_scan : (History → ℕ → History) → History → ℕ → History
one_scan step J zero = J
one_scan step J (suc n) = step (one_scan step J n) n

-- the step is made again until the test holds, at most so often
unfoldable pub until : (History → Bool) → (History → History) → ℕ → History → History
until stop step zero J = J
until stop step (suc fuel) J = elim (stop J) [ true ↦ J | false ↦ until stop step fuel (step J) ]

-- ---- passes: the messages, the items, the accounts

-- the In line of the message after n
abbrev pub take_step : Day → History → ℕ → History
take_step day J n = append day J (wants.In (suc n))

-- takes what is due, message by message
unfoldable pub take_all : Day → History → History
take_all day J = one_scan (take_step day) J (length day.messages)

-- the line of item (n, k), where it has one
abbrev pub item_step : Day → ℕ → History → ℕ → History
item_step day n J k = append day J (item_want day J n k)

-- the items of the message after n
abbrev pub items_step : Day → History → ℕ → History
items_step day J n = one_scan (item_step day (suc n)) J (suc (length (entries day (suc n))))

-- gives every item one chance, by message and entry
unfoldable pub scan : Day → History → History
scan day J = one_scan (items_step day) J (length day.messages)

-- the Sweep line of the account after a
abbrev pub empty_step : Day → History → ℕ → History
empty_step day J a = append day J (wants.Sweep (suc a))

unfoldable pub empty_all : Day → History → History
empty_all day J = one_scan (empty_step day) J (length day.accounts)

-- ---- runs

abbrev pub is_quiet : Day → History → Bool
is_quiet day J = nat_eq (length (scan day J)) (length J)

-- scans as long as they change the history
unfoldable pub quiet : Day → History → History
quiet day J = until (is_quiet day) (scan day) (left day J) J

abbrev pub time_want : History → Want
time_want J = if nat_lt (clock J) MIDNIGHT then wants.Time else wants.End

abbrev pub with_time : Day → History → History
with_time day J = append day J (time_want J)

-- takes what is due, lets the items settle, empties the sub-accounts, and then moves the clock or ends the day
unfoldable pub lap : Day → History → History
lap day J = with_time day (empty_all day (quiet day (take_all day J)))

abbrev pub is_past : Day → ℕ → History → Bool
is_past day r J = is_ended J || nat_lt r (round day J)

-- turns as long as the round stays and the End line doesn't stand
unfoldable pub to_round : Day → History → History
to_round day J = until (is_past day (round day J)) (lap day) (left day J) J

unfoldable pub to_end : Day → History → History
to_end day J = until is_ended (to_round day) (left day J) J

-- the journal of a day without workers
unfoldable pub plain : Day → History
plain day = to_end day []
