-- Pending items: which they are, on which accounts they stand, and which of them stands before which.
use Rattle.std.specs.Prelude.{ℕ, max, Bool, false, not, ◌&&◌, ◌||◌, if◌then◌else◌, List, [], ◌∷◌, Option, Some, None, nat_eq, nat_lt, nat_le, map, fold, is_some, is_none, unwrap_or}
use Rattle.std.specs.List.{list_any, find}
use Rattle.batch_records.specs.DayRecord.{Day}
use Rattle.batch_records.specs.declared.day.Entry.{Entry}
use Rattle.commit_journal.specs.Line.{History}
use Rattle.machine.specs.declared.answers.Item.{Item}
use Rattle.machine.specs.declared.answers.Phase.{Phase}
use Rattle.machine.specs.Words.{is_zero}
use Rattle.machine.specs.Records.Messages.{Sort, Pay, BatchA, BatchB, BatchC, BatchE, sort_of, message_numbers, entry_at, item_numbers, part, settlement_start, debit_account, is_debit, is_credit, debit_entries, debit_numbers, is_high, is_a}
use Rattle.machine.specs.Telling.History.{is_time, place_of, taken, booked, covered}
use Rattle.machine.specs.Stages.Phases.{phase, is_open, is_covered, is_booked, is_revoked_entry}

-- ---- items, by message and entry

abbrev pub item : ℕ → ℕ → Item
item n k = record { msg = n; entry = k }

-- ---- which are pending

abbrev pub first_unbooked_debit : Day → History → ℕ → Option ℕ
first_unbooked_debit day J n = find (λ k. not (is_booked J n k)) (debit_numbers day n)

-- an unbooked debit entry; once there is none, an unbooked credit entry
abbrev pub is_next_of_a : Day → History → ℕ → ℕ → Bool
is_next_of_a day J n k =
    not (is_booked J n k) && (is_debit day n k || is_credit day n k && is_none (first_unbooked_debit day J n))

-- whether item (n, k) of a message of this sort and in this phase is pending
abbrev pub pending_as : Sort → Day → History → ℕ → ℕ → Phase → Bool
pending_as Pay day J n k p = is_zero k && is_open p
pending_as BatchA day J n k p = is_open p && is_next_of_a day J n k || is_covered p && is_credit day n k && not (is_booked J n k)
pending_as BatchB day J n k p = is_zero k && is_open p
pending_as BatchC day J n k p = is_some (entry_at day n k) && is_open p && not (is_booked J n k)
pending_as BatchE day J n k p = is_some (entry_at day n k) && is_open p && not (is_booked J n k) && not (is_revoked_entry day J n k)
pending_as _ day J n k p = false

unfoldable pub is_pending : Day → History → Item → Bool
is_pending day J x = pending_as (sort_of day x.msg) day J x.msg x.entry (phase day J x.msg)

-- ---- on which accounts an item stands

-- the debtor account of each debit entry of a batch, in order: an account of several entries comes as often
abbrev pub debtors : Day → ℕ → List ℕ
debtors day n = map (debit_account day) (debit_entries day n)

abbrev pub debit_account_of_part : Day → Option Entry → List ℕ
debit_account_of_part day None = []
debit_account_of_part day (Some e) = debit_account day e ∷ []

abbrev pub debit_accounts_as : Sort → Day → ℕ → ℕ → List ℕ
debit_accounts_as BatchB day n k = debtors day n
debit_accounts_as _ day n k = debit_account_of_part day (part day n k)

abbrev pub debit_accounts : Day → Item → List ℕ
debit_accounts day x = debit_accounts_as (sort_of day x.msg) day x.msg x.entry

abbrev pub stands_on : Day → ℕ → Item → Bool
stands_on day a x = list_any (λ b. nat_eq b a) (debit_accounts day x)

-- ---- priority and place

-- 0 is urgent, 1 is high, 2 is normal
abbrev pub priority_as : Sort → Day → ℕ → ℕ
priority_as Pay day n = if is_high day n then 1 else 2
priority_as _ day n = 0

abbrev pub is_normal : ℕ → Bool
is_normal priority = nat_eq priority 2

-- the place of the Book line of the debit that was booked last
abbrev pub last_debit_booked : Day → History → ℕ → ℕ
last_debit_booked day J n = fold (λ last k. max last (unwrap_or (booked J n k) 0)) 0 (debit_numbers day n)

-- the place of the first Time line at or above the time at which the settlement begins; the In line, where none is stated
abbrev pub opened_at : Day → History → ℕ → Option ℕ → ℕ
opened_at day J n None = unwrap_or (taken J n) 0
opened_at day J n (Some start) = unwrap_or (place_of (λ l. is_time l.head.kind && nat_le start l.head.entry) J) 0

-- the line that made the item active
abbrev pub active_place : Day → History → Item → ℕ
active_place day J x =
    if is_a (sort_of day x.msg) && is_credit day x.msg x.entry
    then unwrap_or (covered J x.msg) (last_debit_booked day J x.msg)
    else opened_at day J x.msg (settlement_start day x.msg)

-- where an item stands: by priority, then by the line that made it active, then by its In line, then by its entry
pub record Standing : Type 0 where
  pub priority : ℕ
  pub active : ℕ
  pub intake : ℕ
  pub entry : ℕ

abbrev pub standing : Day → History → Item → Standing
standing day J x = record {
  priority = priority_as (sort_of day x.msg) day x.msg;
  active = active_place day J x;
  intake = unwrap_or (taken J x.msg) 0;
  entry = x.entry;
}

-- ---- blockers

-- of higher priority, or of the same and of an earlier place
abbrev pub is_ahead : Standing → Standing → Bool
is_ahead s t =
    nat_lt s.priority t.priority || nat_eq s.priority t.priority
    && (nat_lt s.active t.active || nat_eq s.active t.active
    && (nat_lt s.intake t.intake || nat_eq s.intake t.intake && nat_lt s.entry t.entry))

-- the item y stands before x: a normal item stands before none
abbrev pub stands_before : Day → History → Item → Item → Bool
stands_before day J x y = not (is_normal (priority_as (sort_of day y.msg) day y.msg)) && is_ahead (standing day J y) (standing day J x)

-- y is pending on the account and stands before x
abbrev pub is_blocker : Day → History → Item → ℕ → Item → Bool
is_blocker day J x a y = is_pending day J y && stands_on day a y && stands_before day J x y

-- an item of message n is one
unfoldable pub is_blocked_by : Day → History → Item → ℕ → ℕ → Bool
is_blocked_by day J x a n = list_any (λ k. is_blocker day J x a (item n k)) (item_numbers day n)

unfoldable pub is_blocked : Day → History → Item → ℕ → Bool
is_blocked day J x a = list_any (is_blocked_by day J x a) (message_numbers day)
