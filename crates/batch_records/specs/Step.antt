-- How what the records come to goes on by one more record that is fine.
use Rattle.std.specs.Prelude.{ℕ, Bool, true, false, ◌+◌, ◌≡◌, List, [], ◌∷◌, ◌++◌, length, sum_by, Option, Some, None, is_some}
use Rattle.cash_amounts.specs.Names.{is_id, is_name}
use Rattle.batch_records.specs.Amounts.{amount_in, cents_of}
use Rattle.cash_amounts.specs.Tests.{some_passes}
use Rattle.cash_amounts.specs.declared.records.AccountKind.{AccountKind}
use Rattle.cash_amounts.specs.declared.records.AccountKind.TheVariants as account_kinds
use Rattle.period_calendar.specs.Calendar.{CivilDay}
use Rattle.batch_records.specs.Counts.{inner_count, one_if, record_count}
use Rattle.batch_records.specs.Kinds.{account_kind_in, by_kind}
use Rattle.batch_records.specs.Made.{account_from, answer_from, batch_from, cycle_from, date_in, day_in, day_on, entry_from, objection_from, payment_from, reserve_from, stop_from, system_from, transfer_from}
use Rattle.batch_records.specs.Records.{Fields, field}
use Rattle.batch_records.specs.Sound.{entries_in, is_open_date, is_sound}
use Rattle.batch_records.specs.Words.{version_named}
use Rattle.batch_records.specs.Versions.{begins_with_ver, sum_field}
use Rattle.batch_records.specs.declared.day.Body.{Body}
use Rattle.batch_records.specs.declared.day.Body.TheVariants as bodies
use Rattle.batch_records.specs.DayRecord.{Day}
use Rattle.batch_records.specs.declared.day.DayCode.{DayCode}
use Rattle.batch_records.specs.declared.day.DayFault.{DayFault}
use Rattle.batch_records.specs.declared.day.DayFault.TheVariants as day_faults
use Rattle.batch_records.specs.declared.day.Entry.{Entry}
use Rattle.batch_records.specs.declared.day.Message.{Message}
use Rattle.batch_records.specs.declared.kinds.RecordKind.{RecordKind}
use Rattle.batch_records.specs.declared.kinds.RecordKind.TheVariants as record_kinds
use Rattle.batch_records.specs.declared.so_far.SoFar.{SoFar}

-- the texts of a record are what they have to be
abbrev pub IsSystem : Fields → Type 0
IsSystem r = is_name (field r 1) ≡ true

abbrev pub IsLink : AccountKind → List ℕ → Type 0
IsLink account_kinds.Sub link = is_name link ≡ true
IsLink _ link = Unit {0}

abbrev pub IsAccount : Fields → Type 0
IsAccount r = (is_name (field r 1) ≡ true) × (is_name (field r 3) ≡ true) × (is_some (cents_of (field r 5)) ≡ true) × IsLink (account_kind_in r) (field r 4)

abbrev pub IsReserve : Fields → Type 0
IsReserve r = (is_some (cents_of (field r 2)) ≡ true) × (is_some (cents_of (field r 3)) ≡ true)

abbrev pub IsBatch : ℕ → Fields → Type 0
IsBatch version r = (is_name (field r 1) ≡ true) × (is_id (field r 2) ≡ true) × (is_some (cents_of (sum_field version r)) ≡ true)

abbrev pub IsEntry : Fields → Type 0
IsEntry r = (is_name (field r 1) ≡ true) × (is_name (field r 2) ≡ true) × (is_some (cents_of (field r 3)) ≡ true)

abbrev pub IsPayment : Fields → Type 0
IsPayment r = (is_name (field r 1) ≡ true) × (is_id (field r 2) ≡ true) × (is_name (field r 4) ≡ true) × (is_name (field r 5) ≡ true) × (is_some (cents_of (field r 6)) ≡ true)

abbrev pub IsTransfer : Fields → Type 0
IsTransfer r = (is_name (field r 1) ≡ true) × (is_id (field r 2) ≡ true) × (is_name (field r 3) ≡ true) × (is_name (field r 4) ≡ true) × (is_some (cents_of (field r 5)) ≡ true)

abbrev pub IsObjection : Fields → Type 0
IsObjection r = (is_name (field r 1) ≡ true) × (is_id (field r 2) ≡ true) × (is_name (field r 3) ≡ true) × (is_id (field r 4) ≡ true)

abbrev pub IsAnswer : Fields → Type 0
IsAnswer r = (is_name (field r 1) ≡ true) × (is_id (field r 2) ≡ true) × (is_id (field r 3) ≡ true)

abbrev pub IsCycle : Fields → Type 0
IsCycle r = (is_name (field r 1) ≡ true) × (is_id (field r 2) ≡ true)

-- a batch with one more entry
abbrev pub body_with : Entry → Body → Body
body_with e (bodies.Batch procedure info from till count sum entries) = bodies.Batch procedure info from till count sum (entries ++ e ∷ [])
body_with e other = other

abbrev pub with_entry : Entry → Message → Message
with_entry e m = record m { body = body_with e m.body }

-- a list whose last element has changed
unfoldable pub with_last : {X : Type 0} → (X → X) → List X → List X
with_last f [] = []
with_last f (x ∷ []) = f x ∷ []
with_last f (x ∷ y ∷ rest) = x ∷ with_last f (y ∷ rest)

-- one more message, a batch or another
abbrev pub with_message : Message → Bool → SoFar → SoFar
with_message m batch s = record s { messages = s.messages ++ m ∷ []; begun = true; in_batch = batch }

unfoldable pub after_kind : RecordKind → SoFar → Fields → SoFar
after_kind record_kinds.Ver s r = record s { version = version_named (field r 1); in_batch = false }
after_kind record_kinds.Day s r = record s { date = date_in r; started = true; in_batch = false }
after_kind record_kinds.As s r = record s { systems = s.systems ++ system_from r ∷ []; in_batch = false }
after_kind record_kinds.Acc s r = record s { accounts = s.accounts ++ account_from r ∷ []; opened = s.opened + amount_in (field r 5); in_batch = false }
after_kind record_kinds.Res s r = record s { reserves = s.reserves ++ reserve_from s.accounts r ∷ []; in_batch = false }
after_kind record_kinds.Bat s r = with_message (batch_from s.version (length s.stops) [] r) true s
after_kind record_kinds.Ent s r = record s { messages = with_last (with_entry (entry_from r)) s.messages; entries = s.entries + 1 }
after_kind record_kinds.Pay s r = with_message (payment_from (length s.stops) r) false s
after_kind record_kinds.Liq s r = with_message (transfer_from (length s.stops) r) false s
after_kind record_kinds.Obj s r = with_message (objection_from (length s.stops) r) false s
after_kind record_kinds.Cnf s r = with_message (answer_from (length s.stops) r) false s
after_kind record_kinds.Cyc s r = with_message (cycle_from (length s.stops) r) false s
after_kind record_kinds.Tim s r = record s { stops = s.stops ++ stop_from r ∷ []; begun = true; in_batch = false }
after_kind record_kinds.End s r = record s { ended = true; in_batch = false }

abbrev pub after : SoFar → Fields → SoFar
after s r = by_kind s (λ kind. after_kind kind s r) r

-- a fault is told where there is one, of the record of this number; memory runs out only where the record is fine
abbrev pub FaultIs : DayFault → ℕ → Option DayCode → Type 0
FaultIs (day_faults.Record number c) n found = (number ≡ n) × (found ≡ Some c)
FaultIs (day_faults.Memory memory) n found = found ≡ None

abbrev pub is_batch_body : Body → Bool
is_batch_body (bodies.Batch procedure info from till count sum entries) = true
is_batch_body _ = false

-- the last of some messages is a batch
pub record EndInBatch (messages : List Message) : Type 0 where
  pub before : List Message
  pub last : Message
  pub split : messages ≡ before ++ last ∷ []
  pub batch : is_batch_body last.body ≡ true

-- what holds of the records so far where none was bad
pub record IsInStep (s : SoFar) : Type 0 where
  pub sound : (date : CivilDay) → is_open_date date ≡ true → is_sound (day_on date s) ≡ true
  pub opened : s.opened ≡ sum_by (λ a. a.opening) s.accounts
  pub entries : s.entries ≡ sum_by (λ m. length (entries_in m.body)) s.messages
  pub batch : s.in_batch ≡ true → EndInBatch s.messages
  pub dated : s.started ≡ true → some_passes is_open_date s.date ≡ true
  pub started : s.ended ≡ true → s.started ≡ true

-- how many records make this
abbrev pub counted : SoFar → ℕ
counted s = inner_count (day_in s) + one_if (begins_with_ver s.version) + one_if s.started + one_if s.ended

-- a day that records make is sound, and has a record for each
pub record IsDayOf (records : List Fields) (day : Day) : Type 0 where
  pub sound : is_sound day ≡ true
  pub count : length records ≡ record_count day
