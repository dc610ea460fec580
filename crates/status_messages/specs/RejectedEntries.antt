-- What becomes of the entries of an accepted batch of procedure D, as a statement.
use Rattle.std.specs.Prelude.{◌≡◌, ℕ, suc, ◌+◌, Bool, true, not, if◌then◌else◌, List, [], ◌∷◌, Some, nat_eq, nat_lt, length, map}
use Rattle.std.specs.List.{list_any}
use Rattle.batch_records.specs.DayRecord.{Day}
use Rattle.batch_records.specs.declared.day.Entry.{Entry}
use Rattle.commit_journal.specs.Line.{Line, History}
use Rattle.machine.specs.Records.Messages.{sort_of, is_d, entries, entry_at, move_of, technical_account}
use Rattle.machine.specs.Telling.Balances.{balance}
use Rattle.machine.specs.Telling.Facts.{takes_well}
use Rattle.machine.specs.Legal.{IsLegal}
use Rattle.machine.specs.Laws.{amount_before}
use Rattle.status_messages.specs.declared.status.Status.{Status}
use Rattle.status_messages.specs.declared.status.Status.TheVariants as status
use Rattle.status_messages.specs.Statuses.{rejection_statuses}

-- the entry that a status message is about
abbrev pub entry_told : Status → ℕ
entry_told (status.Turn place to turn msg from id entry reason) = entry
entry_told (status.Moved place to debit account amount) = 0

-- of these entries, which count on from k, those whose number isn't in the list
unfoldable pub entries_but : ℕ → List Entry → List ℕ → List Entry
entries_but k [] numbers = []
entries_but k (e ∷ es) numbers = if list_any (nat_eq k) numbers then entries_but (suc k) es numbers else e ∷ entries_but (suc k) es numbers

-- entry k is told as rejected
abbrev pub is_told : Day → History → Line → ℕ → Bool
is_told day J l k = list_any (nat_eq k) (map entry_told (rejection_statuses day J l))

-- The line moves the entries that aren't told as rejected, in their order. So many are told that each entry is either moved
-- or told, and none is told twice. Entry k is told exactly where its amount, with the amounts of the entries before it that
-- aren't told, is above what the technical account held before the line.
pub record EachEntryIsTold (day : Day) (J : History) (l : Line) : Type 0 where
  pub moved : l.moves ≡ map (move_of day) (entries_but 1 (entries day l.head.msg) (map entry_told (rejection_statuses day J l)))
  pub each : length l.moves + length (rejection_statuses day J l) ≡ length (entries day l.head.msg)
  pub told : (k : ℕ) (e : Entry) → entry_at day l.head.msg k ≡ Some e →
      is_told day J l k ≡ nat_lt (balance day J (technical_account day l.head.msg)) (e.amount + amount_before day l.head.msg (λ i. not (is_told day J l i)) k)

-- of each line of a legal journal that takes a batch of D with code OK
abbrev pub EntriesOfDAreTold : Type 0
EntriesOfDAreTold = (day : Day) (J : History) (l : Line) → IsLegal day (l ∷ J) → takes_well l ≡ true → is_d (sort_of day l.head.msg) ≡ true → EachEntryIsTold day J l
