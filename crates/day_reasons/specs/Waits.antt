-- Which items wait, and the want that would settle each of them.
use Rattle.std.specs.Prelude.{ℕ, ◌≡◌, Bool, true, false, not, ◌||◌, if◌then◌else◌, Option, None, is_some}
use Rattle.batch_records.specs.DayRecord.{Day}
use Rattle.commit_journal.specs.declared.line.Want.{Want}
use Rattle.commit_journal.specs.declared.line.Want.TheVariants as wants
use Rattle.commit_journal.specs.Line.{History}
use Rattle.machine.specs.declared.answers.Phase.{Phase}
use Rattle.machine.specs.declared.answers.Phase.TheVariants as phases
use Rattle.machine.specs.Words.{is_zero, when}
use Rattle.machine.specs.Records.Messages.{Sort, Pay, BatchA, BatchB, BatchC, BatchE, is_b, sort_of}
use Rattle.machine.specs.Telling.History.{booked}
use Rattle.machine.specs.Making.Reasons.{books, paid_by_cover, revoked_part}

-- a message in this phase was accepted, and something of it may still be settled
abbrev pub is_unfinished : Phase → Bool
is_unfinished phases.Covered = true
is_unfinished phases.Answered = true
is_unfinished phases.Asking = true
is_unfinished phases.Information = true
is_unfinished phases.Waiting = true
is_unfinished phases.Open = true
is_unfinished phases.Overdue = true
is_unfinished _ = false

-- the item was booked, an objection revoked it, or the fund paid it
abbrev pub is_done : Day → History → ℕ → ℕ → Bool
is_done day J n k = is_some (booked J n k) || is_some (revoked_part day J n k) || is_some (paid_by_cover day J n k)

-- the want that settles item (n, k) of a message of this sort: a payment is booked as entry 0, a batch of B as a whole, and of A, C and
-- E each entry
abbrev pub settling_as : Sort → ℕ → ℕ → Option Want
settling_as Pay n k = when (is_zero k) (wants.Book n k)
settling_as BatchB n k = when (is_zero k) (wants.All n)
settling_as BatchA n k = when (not (is_zero k)) (wants.Book n k)
settling_as BatchC n k = when (not (is_zero k)) (wants.Book n k)
settling_as BatchE n k = when (not (is_zero k)) (wants.Book n k)
settling_as _ n k = None

abbrev pub settling : Day → ℕ → ℕ → Option Want
settling day n k = settling_as (sort_of day n) n k

-- that want, where the item isn't done
abbrev pub waiting_want : Day → History → ℕ → ℕ → Option Want
waiting_want day J n k = if is_done day J n k then None else settling day n k

-- the wants that settle items of the day
abbrev pub IsSettling : Day → Want → Type 0
IsSettling day (wants.Book n k) = books (sort_of day n) k ≡ true
IsSettling day (wants.All n) = is_b (sort_of day n) ≡ true
IsSettling day _ = ⊥
