-- What the readiness of an item is seen by: the phase of its message and the clock, whether it is pending, and on each account on which it
-- stands whether something stands before it, and the money.
use Rattle.std.specs.Prelude.{ℕ, zero, suc, ◌+◌, Bool, ◌&&◌, not, if◌then◌else◌, nat_eq, nat_lt, nat_le, Option, Some, None, unwrap_or}
use Rattle.std.specs.List.{list_all}
use Rattle.period_calendar.specs.declared.time.TheConstants.{MIDNIGHT}
use Rattle.batch_records.specs.DayRecord.{Day}
use Rattle.batch_records.specs.declared.day.Entry.{Entry}
use Rattle.machine.specs.declared.answers.Phase.{Phase}
use Rattle.machine.specs.declared.answers.Phase.TheVariants as phases
use Rattle.machine.specs.Words.{some_passes}
use Rattle.machine.specs.Records.Messages.{Sort, sort_of, is_b, is_a_or_b, part, debit_account}
use Rattle.machine.specs.Records.Reserves.{must_leave}
use Rattle.machine.specs.Stages.Pending.{debtors}
use Rattle.machine.specs.Making.Lines.{gross, may_lapse}

-- nothing stands before an item of message n on the debit account of its entry, and the money is there that it takes and must leave
abbrev pub part_by : Day → ℕ → (ℕ → Bool) → (ℕ → ℕ) → Entry → Bool
part_by day n blocked money e =
    not (blocked (debit_account day e)) && nat_le (e.amount + must_leave day n (debit_account day e)) (money (debit_account day e))

-- the same of all debtor accounts of a B batch
abbrev pub whole_by : Day → ℕ → (ℕ → Bool) → (ℕ → ℕ) → Bool
whole_by day n blocked money = list_all (λ a. not (blocked a)) (debtors day n) && list_all (λ a. not (nat_lt (money a) (gross day n a))) (debtors day n)

-- of a pending item: of item 0 as the sort has it, of another one by its entry
abbrev pub item_by : Sort → Day → ℕ → ℕ → (ℕ → Bool) → (ℕ → ℕ) → Bool
item_by s day n zero blocked money = if is_b s then whole_by day n blocked money else some_passes (part_by day n blocked money) (part day n 0)
item_by s day n (suc k) blocked money = not (is_b s) && some_passes (part_by day n blocked money) (part day n (suc k))

-- whether item 0 is ready by the phase and the clock alone, where the message is overdue, answered or asking
abbrev pub alone : Day → ℕ → ℕ → Phase → ℕ → Option Bool
alone day n zero phases.Overdue time = Some (may_lapse (sort_of day n))
alone day n zero phases.Answered time = Some (is_a_or_b (sort_of day n))
alone day n zero phases.Asking time = Some (is_a_or_b (sort_of day n) && nat_eq time MIDNIGHT)
alone day n _ _ time = None

-- else it is pending, and nothing stands before it where it stands, and the money is there
abbrev pub ready_by : Day → ℕ → ℕ → Option Bool → Bool → (ℕ → Bool) → (ℕ → ℕ) → Bool
ready_by day n k by_phase pending blocked money = unwrap_or by_phase (pending && item_by (sort_of day n) day n k blocked money)
