-- Scans of the row of items, and a run that goes from one item that has a line to the next.
use Rattle.std.specs.Prelude.{ℕ, zero, suc, ◌-◌, ◌+◌, ◌*◌, Bool, Option, Some, None, is_some}
use Rattle.batch_records.specs.DayRecord.{Day}
use Rattle.commit_journal.specs.declared.line.Want.{Want}
use Rattle.commit_journal.specs.Line.{Line, History}
use Rattle.machine.specs.Making.Lines.{line_of, item_want}
use Rattle.machine.specs.Orders.Bounds.{left}
use Rattle.machine.specs.Orders.Order.{with_line, quiet}
use Rattle.scan_laws.specs.Next.{next_of}
use Rattle.scan_laws.specs.Numbers.{item_count, item_of}

-- ---- the item of a number

-- its want
abbrev pub want_at : Day → History → ℕ → Want
want_at day J i = item_want day J (item_of day i).msg (item_of day i).entry

-- its line, where it has one
unfoldable pub line_at : Day → History → ℕ → Option Line
line_at day J i = line_of day J (want_at day J i)

abbrev pub has_line : Day → History → ℕ → Bool
has_line day J i = is_some (line_at day J i)

-- adds its line, where it has one
abbrev pub flat_step : Day → History → ℕ → History
flat_step day J i = with_line (line_at day J i) J

-- ---- scans

-- a step for each of n numbers from p on, in rising order
unfoldable pub run_from : (History → ℕ → History) → History → ℕ → ℕ → History
run_from step J p zero = J
run_from step J p (suc n) = run_from step (step J p) (suc p) n

-- gives each item from number p on one chance
unfoldable pub scan_from : Day → History → ℕ → History
scan_from day J p = run_from (flat_step day) J p (item_count day - p)

-- ---- from one item that has a line to the next

-- the first item from number p on that has a line
unfoldable pub next_ready : Day → History → ℕ → Option ℕ
next_ready day J p = next_of (has_line day J) p (item_count day - p)

-- the line of the next item that has one, and on after it; where there is none, from the beginning; until there is none at all
unfoldable pub settle_from : Day → ℕ → History → ℕ → History
settle_from day zero J p = J
settle_from day (suc fuel) J p = elim (next_ready day J p) [
  | Some x ↦ settle_from day fuel (flat_step day J x) (suc x)
  | None ↦ elim p [ zero ↦ J | suc q ↦ settle_from day fuel J 0 ]
]

-- how many steps are left: two for each line that the day can still bring, and one for the way back to the beginning
abbrev pub steps_left : Day → History → ℕ → ℕ
steps_left day J zero = 2 * left day J
steps_left day J (suc q) = 2 * left day J + 1

-- the scans from here on: the rest of this one, and then more until one changes nothing
abbrev pub quiet_from : Day → History → ℕ → History
quiet_from day J p = quiet day (scan_from day J p)
