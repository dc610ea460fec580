-- The day of a trial, which is made of a seed: eight systems, each with technical accounts of A and of B, sixteen banks with
-- a dedicated cash account each, and batches of A, B and E in turn, whose entries are drawn.
use Rattle.std.specs.Prelude.{ℕ, zero, suc, ◌+◌, ◌-◌, ◌*◌, ◌/◌, ◌%◌, ◌^◌, true, false, List, [], ◌∷◌, ◌++◌, Some, None, length, map, flat_map, sum_by, decimal, codes}
use Rattle.std.specs.List.{range_with_len}
use Rattle.cash_amounts.specs.declared.records.AccountRecord.{AccountRecord}
use Rattle.cash_amounts.specs.declared.records.SystemRecord.{SystemRecord}
use Rattle.cash_amounts.specs.declared.records.AccountKind.TheVariants as account_kinds
use Rattle.cash_amounts.specs.declared.records.Procedure.{Procedure}
use Rattle.cash_amounts.specs.declared.records.Procedure.TheVariants.{A, B, E}
use Rattle.batch_records.specs.DayRecord.{Day, no_room}
use Rattle.batch_records.specs.declared.day.Message.{Message}
use Rattle.batch_records.specs.declared.day.Entry.{Entry}
use Rattle.batch_records.specs.declared.day.Body.TheVariants as bodies
use Rattle.machine.specs.Stages.Intake.{amount_of}
use Rattle.trial_day.specs.declared.draws.Trio.{Trio}

-- ---- numbers and draws

-- the number that follows x
abbrev pub next_number : ℕ → ℕ
next_number x = (1103515245 * x + 12345) % 2 ^ 31

-- the number that stands i places after x
unfoldable pub number_behind : ℕ → ℕ → ℕ
number_behind x zero = x
number_behind x (suc i) = next_number (number_behind x i)

-- draw number i, from 1: the seed is the number in front of the first
unfoldable pub draw : ℕ → ℕ → ℕ
draw seed i = number_behind seed i / 65536

-- the three draws of one trio after so many
abbrev pub trio : ℕ → ℕ → Trio
trio seed before = record { debit = draw seed (before + 1); credit = draw seed (before + 2); amount = draw seed (before + 3) }

-- Each message has four trios: message i, from 1, has the draws from 12 * (i - 1) + 1 to 12 * i.
abbrev pub trios : ℕ → ℕ → List Trio
trios seed i = trio seed (12 * (i - 1)) ∷ trio seed (12 * (i - 1) + 3) ∷ trio seed (12 * (i - 1) + 6) ∷ trio seed (12 * (i - 1) + 9) ∷ []

-- the same of the number after which they stand
abbrev pub trio_behind : ℕ → Trio
trio_behind x = record { debit = number_behind x 1 / 65536; credit = number_behind x 2 / 65536; amount = number_behind x 3 / 65536 }

abbrev pub trios_behind : ℕ → List Trio
trios_behind x = trio_behind x ∷ trio_behind (number_behind x 3) ∷ trio_behind (number_behind x 6) ∷ trio_behind (number_behind x 9) ∷ []

-- ---- names

abbrev pub digit : ℕ → ℕ
digit n = 48 + n

-- of a number below 100
abbrev pub two_digits : ℕ → List ℕ
two_digits n = digit (n / 10) ∷ digit (n % 10) ∷ []

-- dedicated cash account n, from 1
abbrev pub dca_name : ℕ → List ℕ
dca_name n = codes "DCA" ++ two_digits n

abbrev pub bank_name : ℕ → List ℕ
bank_name n = codes "BANK" ++ two_digits n

-- system s, from 1 to 9
abbrev pub system_name : ℕ → List ℕ
system_name s = codes "CH" ++ digit s ∷ []

abbrev pub technical_a : ℕ → List ℕ
technical_a s = codes "TA" ++ digit s ∷ []

abbrev pub technical_b : ℕ → List ℕ
technical_b s = codes "TB" ++ digit s ∷ []

abbrev pub message_id : ℕ → List ℕ
message_id i = codes "M" ++ decimal i

-- ---- the setup

-- a bank's account with 1,000,000,000.00
abbrev pub dca : ℕ → AccountRecord
dca n = record { name = dca_name n; kind = account_kinds.Dca; owner = bank_name n; system = None; procedure = None; opening = 100000000000 }

abbrev pub technical_account : List ℕ → ℕ → Procedure → AccountRecord
technical_account name s p = record { name = name; kind = account_kinds.Tech; owner = system_name s; system = None; procedure = Some p; opening = 0 }

abbrev pub technical_accounts : ℕ → List AccountRecord
technical_accounts s = technical_account (technical_a s) s A ∷ technical_account (technical_b s) s B ∷ []

unfoldable pub trial_accounts : List AccountRecord
trial_accounts = map dca (range_with_len 1 16) ++ flat_map technical_accounts (range_with_len 1 8)

-- a system that lists A, B and E
abbrev pub trial_system : ℕ → SystemRecord
trial_system s = record { name = system_name s; procedures = true ∷ true ∷ false ∷ false ∷ true ∷ [] }

unfoldable pub trial_systems : List SystemRecord
trial_systems = map trial_system (range_with_len 1 8)

-- ---- message i

-- A where a division by 3 leaves 1, B where it leaves 2, else E
abbrev pub procedure_by : ℕ → Procedure
procedure_by (suc zero) = A
procedure_by (suc (suc zero)) = B
procedure_by _ = E

abbrev pub procedure_of_message : ℕ → Procedure
procedure_of_message i = procedure_by (i % 3)

-- the systems send in turn
abbrev pub system_of_message : ℕ → ℕ
system_of_message i = (i - 1) % 8 + 1

-- ---- the entries of a trio

-- 0.01 to 100.00
abbrev pub drawn_amount : Trio → ℕ
drawn_amount t = t.amount % 10000 + 1

abbrev pub drawn_debit : Trio → ℕ
drawn_debit t = t.debit % 16 + 1

abbrev pub drawn_credit : Trio → ℕ
drawn_credit t = t.credit % 16 + 1

-- another account than that of the debit
abbrev pub drawn_other : Trio → ℕ
drawn_other t = (t.debit + 1 + t.credit % 15) % 16 + 1

abbrev pub debit_entry : List ℕ → Trio → Entry
debit_entry technical t = record { debit = dca_name (drawn_debit t); credit = technical; amount = drawn_amount t }

abbrev pub credit_entry : List ℕ → Trio → Entry
credit_entry technical t = record { debit = technical; credit = dca_name (drawn_credit t); amount = drawn_amount t }

abbrev pub transfer_entry : Trio → Entry
transfer_entry t = record { debit = dca_name (drawn_debit t); credit = dca_name (drawn_other t); amount = drawn_amount t }

-- the debits of all trios, and then their credits
abbrev pub entries_over : List ℕ → List Trio → List Entry
entries_over technical ts = map (debit_entry technical) ts ++ map (credit_entry technical) ts

unfoldable pub drawn_entries : Procedure → ℕ → List Trio → List Entry
drawn_entries A s ts = entries_over (technical_a s) ts
drawn_entries B s ts = entries_over (technical_b s) ts
drawn_entries _ s ts = map transfer_entry ts

-- ---- the messages, and the day

-- with its right count and sum, and no ends of its own
abbrev pub batch : ℕ → Procedure → List Entry → Message
batch i p es = record {
  round = 0;
  sender = system_name (system_of_message i);
  id = message_id i;
  body = bodies.Batch p None None None (length es) (sum_by amount_of es) es;
}

unfoldable pub trial_message : ℕ → ℕ → Message
trial_message seed i = batch i (procedure_of_message i) (drawn_entries (procedure_of_message i) (system_of_message i) (trios seed i))

-- the day of a seed with so many batches: Monday, 2 June 2025, with no stop of time
unfoldable pub generated : ℕ → ℕ → Day
generated seed batches = record {
  version = 1;
  date = record { year = 2025; month = 6; day = 2 };
  accounts = trial_accounts;
  systems = trial_systems;
  reserves = [];
  stops = [];
  room = no_room;
  messages = map (trial_message seed) (range_with_len 1 batches);
}
