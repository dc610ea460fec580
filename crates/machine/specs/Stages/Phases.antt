-- The phase of a message: how far it has come.
use Rattle.std.specs.Prelude.{ℕ, Bool, true, false, not, ◌&&◌, ◌||◌, [], ◌∷◌, nat_lt, is_some, is_none}
use Rattle.std.specs.List.{list_all}
use Rattle.period_calendar.specs.declared.time.TheConstants.{MIDNIGHT}
use Rattle.batch_records.specs.DayRecord.{Day}
use Rattle.commit_journal.specs.Line.{History}
use Rattle.machine.specs.declared.answers.Phase.{Phase}
use Rattle.machine.specs.declared.answers.Phase.TheVariants as phases
use Rattle.machine.specs.Words.{first_case, some_passes}
use Rattle.machine.specs.Records.Messages.{Sort, Pay, BatchA, BatchB, BatchC, BatchD, BatchE, Liquidity, Object, Confirm, Cycle, sort_of, is_a, info_end, earliest, settlement_end, entry_numbers, credit_numbers}
use Rattle.machine.specs.Telling.History.{taken, is_accepted, booked, settled_whole, asked, covered, closed, clock}
use Rattle.machine.specs.Telling.Facts.{answered, revoked, cycle_ended}

-- ---- entries

abbrev pub is_booked : History → ℕ → ℕ → Bool
is_booked J n k = is_some (booked J n k)

abbrev pub is_revoked_entry : Day → History → ℕ → ℕ → Bool
is_revoked_entry day J n k = is_some (revoked day J n k)

-- ---- the rows of the table

-- no orders: their intake is all that they want
abbrev pub is_no_order : Sort → Bool
is_no_order Liquidity = true
is_no_order Object = true
is_no_order Confirm = true
is_no_order Cycle = true
is_no_order _ = false

abbrev pub revoked_as : Sort → Day → History → ℕ → Bool
revoked_as BatchA day J n = is_revoked_entry day J n 0
revoked_as BatchB day J n = is_revoked_entry day J n 0
revoked_as BatchE day J n = list_all (is_revoked_entry day J n) (entry_numbers day n)
revoked_as _ day J n = false

abbrev pub settled_as : Sort → Day → History → ℕ → Bool
settled_as Pay day J n = is_booked J n 0
settled_as BatchA day J n = list_all (is_booked J n) (credit_numbers day n)
settled_as BatchB day J n = is_some (settled_whole J n) || is_some (covered J n)
settled_as BatchC day J n = list_all (is_booked J n) (entry_numbers day n)
settled_as BatchD day J n = true
settled_as BatchE day J n = list_all (λ k. is_booked J n k || is_revoked_entry day J n k) (entry_numbers day n)
settled_as _ day J n = false

abbrev pub open_as : Sort → Day → History → ℕ → Bool
open_as BatchA day J n = nat_lt (clock J) (settlement_end day n)
open_as BatchB day J n = nat_lt (clock J) (settlement_end day n)
open_as BatchE day J n = nat_lt (clock J) (settlement_end day n)
open_as BatchC day J n = nat_lt (clock J) MIDNIGHT && not (cycle_ended day n J)
open_as Pay day J n = nat_lt (clock J) MIDNIGHT
open_as _ day J n = false

unfoldable pub phase : Day → History → ℕ → Phase
phase day J n = first_case (
    (is_none (taken J n), phases.Untaken)
    ∷ (not (is_accepted J n), phases.Rejected)
    ∷ (is_no_order (sort_of day n), phases.Settled)
    ∷ (is_some (closed J n), phases.Closed)
    ∷ (revoked_as (sort_of day n) day J n, phases.Revoked)
    ∷ (settled_as (sort_of day n) day J n, phases.Settled)
    ∷ (is_a (sort_of day n) && is_some (covered J n), phases.Covered)
    ∷ (is_some (asked J n) && is_some (answered day J n), phases.Answered)
    ∷ (is_some (asked J n), phases.Asking)
    ∷ (some_passes (nat_lt (clock J)) (info_end day n), phases.Information)
    ∷ (some_passes (nat_lt (clock J)) (earliest day n), phases.Waiting)
    ∷ (open_as (sort_of day n) day J n, phases.Open)
    ∷ []) phases.Overdue

-- ---- tests of phases

abbrev pub is_open : Phase → Bool
is_open phases.Open = true
is_open _ = false

abbrev pub is_covered : Phase → Bool
is_covered phases.Covered = true
is_covered _ = false

abbrev pub is_overdue : Phase → Bool
is_overdue phases.Overdue = true
is_overdue _ = false

abbrev pub is_answered : Phase → Bool
is_answered phases.Answered = true
is_answered _ = false

abbrev pub is_asking : Phase → Bool
is_asking phases.Asking = true
is_asking _ = false

abbrev pub is_information : Phase → Bool
is_information phases.Information = true
is_information _ = false

abbrev pub is_waiting : Phase → Bool
is_waiting phases.Waiting = true
is_waiting _ = false
