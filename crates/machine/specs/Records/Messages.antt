-- Messages, numbered from 1 in file order: their sorts and their parts.
use Rattle.std.specs.Prelude.{ℕ, suc, length, Bool, true, false, ◌&&◌, List, [], Option, Some, None, unwrap_or, filter, not}
use Rattle.std.specs.List.{range_with_len}
use Rattle.std.specs.Option.{option_map_or, option_or}
use Rattle.cash_amounts.specs.declared.records.Procedure.{Procedure}
use Rattle.cash_amounts.specs.declared.records.Procedure.TheVariants.{A, B, C, D, E}
use Rattle.period_calendar.specs.declared.time.TheConstants.{MIDNIGHT}
use Rattle.batch_records.specs.DayRecord.{Day}
pub use Rattle.batch_records.specs.Sound.{entries_in}
pub use Rattle.batch_records.specs.Repeats.{message_numbers, message_at, is_named, first_of_name, is_repeat}
use Rattle.batch_records.specs.declared.day.Entry.{Entry}
use Rattle.batch_records.specs.declared.day.Body.{Body}
use Rattle.batch_records.specs.declared.day.Body.TheVariants as bodies
use Rattle.commit_journal.specs.declared.line.Move.{Move}
use Rattle.machine.specs.Words.{numbered, numbers, same_account, some_passes}
use Rattle.machine.specs.Records.Setup.{account_named, technical, fund}

-- the sort of a message; Missing is that of a number that no message has
pub data Sort : Type 0 where
  Missing : Sort
  Pay : Sort
  BatchA : Sort
  BatchB : Sort
  BatchC : Sort
  BatchD : Sort
  BatchE : Sort
  Liquidity : Sort
  Object : Sort
  Confirm : Sort
  Cycle : Sort

abbrev pub sort_of_batch : Procedure → Sort
sort_of_batch A = BatchA
sort_of_batch B = BatchB
sort_of_batch C = BatchC
sort_of_batch D = BatchD
sort_of_batch E = BatchE

abbrev pub sort_of_body : Body → Sort
sort_of_body (bodies.Batch p info from till count sum entries) = sort_of_batch p
sort_of_body (bodies.Pay high debit credit amount) = Pay
sort_of_body (bodies.Liquidity debit credit amount) = Liquidity
sort_of_body (bodies.Object system batch) = Object
sort_of_body (bodies.Confirm batch answer) = Confirm
sort_of_body (bodies.Cycle start) = Cycle

abbrev pub sort_of : Day → ℕ → Sort
sort_of day n = option_map_or (λ m. sort_of_body m.body) (message_at day n) Missing

abbrev pub sender : Day → ℕ → List ℕ
sender day n = option_map_or (λ m. m.sender) (message_at day n) []

abbrev pub round_of : Day → ℕ → ℕ
round_of day n = option_map_or (λ m. m.round) (message_at day n) 0

-- ---- sorts

abbrev pub is_message : Sort → Bool
is_message Missing = false
is_message _ = true

abbrev pub is_pay : Sort → Bool
is_pay Pay = true
is_pay _ = false

abbrev pub is_batch : Sort → Bool
is_batch BatchA = true
is_batch BatchB = true
is_batch BatchC = true
is_batch BatchD = true
is_batch BatchE = true
is_batch _ = false

abbrev pub is_a : Sort → Bool
is_a BatchA = true
is_a _ = false

abbrev pub is_b : Sort → Bool
is_b BatchB = true
is_b _ = false

abbrev pub is_c : Sort → Bool
is_c BatchC = true
is_c _ = false

abbrev pub is_d : Sort → Bool
is_d BatchD = true
is_d _ = false

abbrev pub is_e : Sort → Bool
is_e BatchE = true
is_e _ = false

abbrev pub is_a_or_b : Sort → Bool
is_a_or_b BatchA = true
is_a_or_b BatchB = true
is_a_or_b _ = false

abbrev pub is_liquidity : Sort → Bool
is_liquidity Liquidity = true
is_liquidity _ = false

abbrev pub is_object : Sort → Bool
is_object Object = true
is_object _ = false

abbrev pub is_confirm : Sort → Bool
is_confirm Confirm = true
is_confirm _ = false

abbrev pub is_cycle : Sort → Bool
is_cycle Cycle = true
is_cycle _ = false

-- the procedure of a batch, none of another message
abbrev pub procedure_in : Body → Option Procedure
procedure_in (bodies.Batch p info from till count sum entries) = Some p
procedure_in _ = None

abbrev pub batch_procedure : Day → ℕ → Option Procedure
batch_procedure day n = option_map_or (λ m. procedure_in m.body) (message_at day n) None

-- ---- parts of a batch

abbrev pub info_in : Body → Option ℕ
info_in (bodies.Batch p info from till count sum entries) = info
info_in _ = None

abbrev pub earliest_in : Body → Option ℕ
earliest_in (bodies.Batch p info from till count sum entries) = from
earliest_in _ = None

abbrev pub till_in : Body → Option ℕ
till_in (bodies.Batch p info from till count sum entries) = till
till_in _ = None

abbrev pub count_in : Body → ℕ
count_in (bodies.Batch p info from till count sum entries) = count
count_in _ = 0

abbrev pub sum_in : Body → ℕ
sum_in (bodies.Batch p info from till count sum entries) = sum
sum_in _ = 0

abbrev pub entries : Day → ℕ → List Entry
entries day n = option_map_or (λ m. entries_in m.body) (message_at day n) []

abbrev pub entry_at : Day → ℕ → ℕ → Option Entry
entry_at day n k = numbered (entries day n) k

abbrev pub entry_numbers : Day → ℕ → List ℕ
entry_numbers day n = numbers (entries day n)

-- the entries of the items of a message: 0, and those of its entries
abbrev pub item_numbers : Day → ℕ → List ℕ
item_numbers day n = range_with_len 0 (suc (length (entries day n)))

abbrev pub info_end : Day → ℕ → Option ℕ
info_end day n = option_map_or (λ m. info_in m.body) (message_at day n) None

-- the time before which a batch isn't settled, where it states one
abbrev pub earliest : Day → ℕ → Option ℕ
earliest day n = option_map_or (λ m. earliest_in m.body) (message_at day n) None

-- the time at which its settlement begins, where it states one: its earliest time, and else its information end
abbrev pub settlement_start : Day → ℕ → Option ℕ
settlement_start day n = option_or (earliest day n) (info_end day n)

-- the settlement end that a batch states
abbrev pub stated_end : Day → ℕ → Option ℕ
stated_end day n = option_map_or (λ m. till_in m.body) (message_at day n) None

-- the settlement end, which is midnight where none is stated
abbrev pub settlement_end : Day → ℕ → ℕ
settlement_end day n = unwrap_or (stated_end day n) MIDNIGHT

abbrev pub stated_count : Day → ℕ → ℕ
stated_count day n = option_map_or (λ m. count_in m.body) (message_at day n) 0

abbrev pub stated_sum : Day → ℕ → ℕ
stated_sum day n = option_map_or (λ m. sum_in m.body) (message_at day n) 0

-- ---- the move of a payment or of a liquidity transfer, as an entry

abbrev pub transfer_in : Body → Option Entry
transfer_in (bodies.Pay high debit credit amount) = Some (record { debit = debit; credit = credit; amount = amount })
transfer_in (bodies.Liquidity debit credit amount) = Some (record { debit = debit; credit = credit; amount = amount })
transfer_in _ = None

abbrev pub transfer : Day → ℕ → Option Entry
transfer day n = option_map_or (λ m. transfer_in m.body) (message_at day n) None

abbrev pub high_in : Body → Bool
high_in (bodies.Pay high debit credit amount) = high
high_in _ = false

abbrev pub is_high : Day → ℕ → Bool
is_high day n = option_map_or (λ m. high_in m.body) (message_at day n) false

-- what item (n, k) moves: entry k of a batch, or with k = 0 the transfer of a payment
abbrev pub part : Day → ℕ → ℕ → Option Entry
part day n ℕ.zero = transfer day n
part day n (ℕ.suc k) = entry_at day n (ℕ.suc k)

-- ---- accounts of an entry, by number; 0 where the name is no account's

abbrev pub debit_account : Day → Entry → ℕ
debit_account day e = unwrap_or (account_named day e.debit) 0

abbrev pub credit_account : Day → Entry → ℕ
credit_account day e = unwrap_or (account_named day e.credit) 0

abbrev pub move_of : Day → Entry → Move
move_of day e = record { debit = debit_account day e; credit = credit_account day e; amount = e.amount }

-- ---- technical account and fund of a batch; 0 where there is none

abbrev pub procedure_of_sort : Sort → Procedure
procedure_of_sort BatchA = A
procedure_of_sort BatchB = B
procedure_of_sort BatchC = C
procedure_of_sort BatchD = D
procedure_of_sort _ = E

abbrev pub procedure_of : Day → ℕ → Procedure
procedure_of day n = procedure_of_sort (sort_of day n)

abbrev pub technical_of : Day → ℕ → Option ℕ
technical_of day n = technical day (sender day n) (procedure_of day n)

abbrev pub technical_account : Day → ℕ → ℕ
technical_account day n = unwrap_or (technical_of day n) 0

abbrev pub fund_of : Day → ℕ → Option ℕ
fund_of day n = fund day (sender day n)

abbrev pub fund_account : Day → ℕ → ℕ
fund_account day n = unwrap_or (fund_of day n) 0

-- ---- debit entries pay to the technical account; each other entry of an accepted A or B batch is a credit entry

abbrev pub pays_technical : Day → ℕ → Entry → Bool
pays_technical day n e = same_account (account_named day e.credit) (technical_of day n)

abbrev pub is_paid_from_technical : Day → ℕ → Entry → Bool
is_paid_from_technical day n e = same_account (account_named day e.debit) (technical_of day n)

abbrev pub is_debit_entry : Day → ℕ → Entry → Bool
is_debit_entry day n e = pays_technical day n e

abbrev pub is_credit_entry : Day → ℕ → Entry → Bool
is_credit_entry day n e = not (is_debit_entry day n e)

abbrev pub debit_entries : Day → ℕ → List Entry
debit_entries day n = filter (is_debit_entry day n) (entries day n)

abbrev pub credit_entries : Day → ℕ → List Entry
credit_entries day n = filter (is_credit_entry day n) (entries day n)

-- whether an entry is on the debit side, or on the credit side
abbrev pub is_on_side : Bool → Day → ℕ → Entry → Bool
is_on_side true day n e = is_debit_entry day n e
is_on_side false day n e = is_credit_entry day n e

abbrev pub side : Bool → Day → ℕ → List Entry
side debits day n = filter (is_on_side debits day n) (entries day n)

abbrev pub is_debit : Day → ℕ → ℕ → Bool
is_debit day n k = some_passes (is_debit_entry day n) (entry_at day n k)

abbrev pub is_credit : Day → ℕ → ℕ → Bool
is_credit day n k = some_passes (is_credit_entry day n) (entry_at day n k)

abbrev pub debit_numbers : Day → ℕ → List ℕ
debit_numbers day n = filter (is_debit day n) (entry_numbers day n)

abbrev pub credit_numbers : Day → ℕ → List ℕ
credit_numbers day n = filter (is_credit day n) (entry_numbers day n)

-- ---- the batch that is named

-- n is the batch that an objection or an answer names by its system and its identification
abbrev pub names_batch : Day → List ℕ → List ℕ → ℕ → Bool
names_batch day system id n = is_batch (sort_of day n) && some_passes (is_named system id) (message_at day n) && not (is_repeat day n)
