-- The code with which a message is taken: the first row that applies.
use Rattle.std.specs.Prelude.{ℕ, ◌+◌, ◌-◌, Bool, true, false, not, ◌&&◌, ◌||◌, List, [], ◌∷◌, Option, Some, None, nat_eq, nat_le, nat_lt, length, sum_by, filter, map, is_some, is_none}
use Rattle.std.specs.List.{list_all, list_any}
use Rattle.batch_records.specs.DayRecord.{Day}
use Rattle.batch_records.specs.declared.day.Message.{Message}
use Rattle.batch_records.specs.declared.day.Entry.{Entry}
use Rattle.batch_records.specs.declared.day.Body.{Body}
use Rattle.batch_records.specs.declared.day.Body.TheVariants as bodies
use Rattle.commit_journal.specs.declared.line.Move.{Move}
use Rattle.commit_journal.specs.declared.line.Code.{Code}
use Rattle.commit_journal.specs.declared.line.Code.TheVariants as line_codes
use Rattle.commit_journal.specs.Line.{History}
use Rattle.cash_amounts.specs.declared.records.Procedure.TheVariants.{A, B, C, D, E}
use Rattle.machine.specs.Words.{first_case, some_passes, same_account, is_empty, is_technical, same_procedure}
use Rattle.machine.specs.Records.Setup.{is_system, is_bank, uses, account_named, is_dca_account, is_dca_of, is_sub_of, is_sub_for, is_sub_account, linked, names_account}
use Rattle.machine.specs.Records.Messages.{Sort, Pay, BatchA, BatchB, BatchC, BatchD, BatchE, Liquidity, Object, Confirm, Cycle, sort_of, sender, message_at, entries, transfer, info_end, earliest, stated_end, settlement_end, stated_count, stated_sum, technical_account, pays_technical, is_paid_from_technical, debit_account, move_of, is_repeat, is_liquidity, is_batch}
use Rattle.machine.specs.Records.Reserves.{kept}
use Rattle.machine.specs.Telling.History.{clock}
use Rattle.machine.specs.Telling.Balances.{balance}
use Rattle.machine.specs.Telling.Facts.{accepted_batch, is_party, open_cycle}
use Rattle.machine.specs.Stages.Phases.{phase, is_information, is_asking}

-- ---- US: batches, answers and cycle messages come from systems, the others from banks

abbrev pub sender_is_wrong : Sort → Day → List ℕ → Bool
sender_is_wrong Pay day from = not (is_bank day from)
sender_is_wrong Liquidity day from = not (is_bank day from)
sender_is_wrong Object day from = not (is_bank day from)
sender_is_wrong _ day from = not (is_system day from)

-- ---- PR

abbrev pub procedure_is_unused : Sort → Day → List ℕ → Bool
procedure_is_unused BatchA day from = not (uses day from A)
procedure_is_unused BatchB day from = not (uses day from B)
procedure_is_unused BatchC day from = not (uses day from C)
procedure_is_unused BatchD day from = not (uses day from D)
procedure_is_unused BatchE day from = not (uses day from E)
procedure_is_unused Cycle day from = not (uses day from C)
procedure_is_unused _ day from = false

-- ---- CT, SM

abbrev pub count_is_wrong : Day → ℕ → Bool
count_is_wrong day n = is_batch (sort_of day n) && (is_empty (entries day n) || not (nat_eq (length (entries day n)) (stated_count day n)))

abbrev pub amount_of : Entry → ℕ
amount_of e = e.amount

abbrev pub sum_is_wrong : Day → ℕ → Bool
sum_is_wrong day n = is_batch (sort_of day n) && not (nat_eq (sum_by amount_of (entries day n)) (stated_sum day n))

-- ---- NZ: what goes to the technical account and what comes from it differ

abbrev pub sides_differ : Day → ℕ → Bool
sides_differ day n = not (nat_eq (sum_by amount_of (filter (pays_technical day n) (entries day n))) (sum_by amount_of (filter (is_paid_from_technical day n) (entries day n))))

abbrev pub is_not_zero : Sort → Day → ℕ → Bool
is_not_zero BatchA day n = sides_differ day n
is_not_zero BatchB day n = sides_differ day n
is_not_zero _ day n = false

-- ---- EN: the forms of entries

abbrev pub entry_fits : Sort → Day → ℕ → Entry → Bool
entry_fits BatchA day n e = is_dca_account day e.debit && pays_technical day n e || is_paid_from_technical day n e && is_dca_account day e.credit
entry_fits BatchB day n e = is_dca_account day e.debit && pays_technical day n e || is_paid_from_technical day n e && is_dca_account day e.credit
entry_fits BatchC day n e = is_sub_for day (sender day n) e.debit && pays_technical day n e || is_paid_from_technical day n e && is_sub_for day (sender day n) e.credit
entry_fits BatchD day n e = is_paid_from_technical day n e && is_dca_account day e.credit
entry_fits BatchE day n e = is_dca_account day e.debit && is_dca_account day e.credit && not (same_account (account_named day e.debit) (account_named day e.credit))
entry_fits _ day n e = true

-- ---- TI

abbrev pub info_is_wrong : Day → History → ℕ → Option ℕ → Bool
info_is_wrong day J n None = false
info_is_wrong day J n (Some info) = not (nat_lt (clock J) info && nat_lt info (settlement_end day n))

abbrev pub earliest_is_wrong : Day → History → ℕ → Option ℕ → Bool
earliest_is_wrong day J n None = false
earliest_is_wrong day J n (Some from) = not (nat_lt (clock J) from && nat_lt from (settlement_end day n))

-- an information end above the earliest time
abbrev pub are_crossed : Option ℕ → Option ℕ → Bool
are_crossed (Some info) (Some from) = not (nat_le info from)
are_crossed _ _ = false

-- the row of A, B and E
abbrev pub periods_are_wrong : Day → History → ℕ → Bool
periods_are_wrong day J n =
    not (nat_lt (clock J) (settlement_end day n))
    || info_is_wrong day J n (info_end day n)
    || earliest_is_wrong day J n (earliest day n)
    || are_crossed (info_end day n) (earliest day n)

-- a batch of C or D states a time; one that was read has no earliest time
abbrev pub states_a_time : Day → ℕ → Bool
states_a_time day n = is_some (info_end day n) || is_some (earliest day n) || is_some (stated_end day n)

abbrev pub times_are_wrong : Sort → Day → History → ℕ → Bool
times_are_wrong BatchA day J n = periods_are_wrong day J n
times_are_wrong BatchB day J n = periods_are_wrong day J n
times_are_wrong BatchE day J n = periods_are_wrong day J n
times_are_wrong BatchC day J n = states_a_time day n
times_are_wrong BatchD day J n = states_a_time day n
times_are_wrong _ day J n = false

-- ---- CY

abbrev pub cycle_is_wrong_in : Day → History → List ℕ → Body → Bool
cycle_is_wrong_in day J from (bodies.Batch C info early till count sum entries) = is_none (open_cycle day from J)
cycle_is_wrong_in day J from (bodies.Cycle true) = is_some (open_cycle day from J)
cycle_is_wrong_in day J from (bodies.Cycle false) = is_none (open_cycle day from J)
cycle_is_wrong_in day J from _ = false

abbrev pub cycle_is_wrong : Day → History → ℕ → Bool
cycle_is_wrong day J n = some_passes (λ m. cycle_is_wrong_in day J m.sender m.body) (message_at day n)

-- ---- AC, LK, NC: the accounts of payments and liquidity transfers

abbrev pub payment_fits : Day → List ℕ → Entry → Bool
payment_fits day bank e = is_dca_of day bank e.debit && is_dca_account day e.credit && not (same_account (account_named day e.debit) (account_named day e.credit))

-- a technical account D of any system
abbrev pub is_technical_d : Day → List ℕ → Bool
is_technical_d day name = names_account day (λ r. is_technical r.kind && some_passes (λ p. same_procedure p D) r.procedure) name

abbrev pub liquidity_fits : Day → List ℕ → Entry → Bool
liquidity_fits day bank e =
    is_dca_of day bank e.debit && is_sub_of day bank e.credit
    || is_sub_of day bank e.debit && is_dca_of day bank e.credit
    || is_dca_of day bank e.debit && is_technical_d day e.credit

abbrev pub accounts_are_wrong : Sort → Day → ℕ → Bool
accounts_are_wrong Pay day n = not (some_passes (payment_fits day (sender day n)) (transfer day n))
accounts_are_wrong Liquidity day n = not (some_passes (liquidity_fits day (sender day n)) (transfer day n))
accounts_are_wrong _ day n = false

-- the account is a sub-account, and a cycle of its system is open
abbrev pub is_locked : Day → History → ℕ → Bool
is_locked day J a = is_sub_account day a && some_passes (λ system. is_some (open_cycle day system J)) (linked day a)

abbrev pub debit_is_locked : Day → History → ℕ → Bool
debit_is_locked day J n = is_liquidity (sort_of day n) && some_passes (λ e. is_locked day J (debit_account day e)) (transfer day n)

-- the account of a transfer has less than its amount and what a normal payment must leave there
abbrev pub debit_is_short : Day → History → ℕ → Bool
debit_is_short day J n = is_liquidity (sort_of day n) && some_passes (λ e. nat_lt (balance day J (debit_account day e)) (e.amount + kept day (debit_account day e) false)) (transfer day n)

-- ---- BT, PH, NP: the batch that an objection or an answer names

abbrev pub target_in : Day → History → List ℕ → Body → Option ℕ
target_in day J from (bodies.Object system id) = accepted_batch day J system id
target_in day J from (bodies.Confirm id answer) = accepted_batch day J from id
target_in day J from _ = None

abbrev pub target_of_message : Day → History → Option Message → Option ℕ
target_of_message day J None = None
target_of_message day J (Some m) = target_in day J m.sender m.body

abbrev pub target : Day → History → ℕ → Option ℕ
target day J n = target_of_message day J (message_at day n)

abbrev pub target_is_missing : Sort → Day → History → ℕ → Bool
target_is_missing Object day J n = is_none (target day J n)
target_is_missing Confirm day J n = is_none (target day J n)
target_is_missing _ day J n = false

abbrev pub phase_is_wrong : Sort → Day → History → ℕ → Bool
phase_is_wrong Object day J n = some_passes (λ b. not (is_information (phase day J b))) (target day J n)
phase_is_wrong Confirm day J n = some_passes (λ b. not (is_asking (phase day J b))) (target day J n)
phase_is_wrong _ day J n = false

abbrev pub is_no_party : Sort → Day → History → ℕ → Bool
is_no_party Object day J n = some_passes (λ b. not (list_any (is_party day (sender day n)) (entries day b))) (target day J n)
is_no_party _ day J n = false

-- ---- the table

unfoldable pub intake_code : Day → History → ℕ → Code
intake_code day J n = first_case (
    (is_repeat day n, line_codes.Du)
    ∷ (sender_is_wrong (sort_of day n) day (sender day n), line_codes.Us)
    ∷ (procedure_is_unused (sort_of day n) day (sender day n), line_codes.Pr)
    ∷ (count_is_wrong day n, line_codes.Ct)
    ∷ (sum_is_wrong day n, line_codes.Sm)
    ∷ (is_not_zero (sort_of day n) day n, line_codes.Nz)
    ∷ (not (list_all (entry_fits (sort_of day n) day n) (entries day n)), line_codes.En)
    ∷ (times_are_wrong (sort_of day n) day J n, line_codes.Ti)
    ∷ (cycle_is_wrong day J n, line_codes.Cy)
    ∷ (accounts_are_wrong (sort_of day n) day n, line_codes.Ac)
    ∷ (debit_is_locked day J n, line_codes.Lk)
    ∷ (debit_is_short day J n, line_codes.Nc)
    ∷ (target_is_missing (sort_of day n) day J n, line_codes.Bt)
    ∷ (phase_is_wrong (sort_of day n) day J n, line_codes.Ph)
    ∷ (is_no_party (sort_of day n) day J n, line_codes.Np)
    ∷ []) line_codes.Ok

-- ---- the moves of an intake

-- of the entries in order, each that the balance covers, less those before it
abbrev pub afforded_in_order : ℕ → List Entry → List Entry
afforded_in_order available [] = []
afforded_in_order available (e ∷ es) =
    elim (nat_lt available e.amount) [ true ↦ afforded_in_order available es | false ↦ e ∷ afforded_in_order (available - e.amount) es ]

abbrev pub transfer_moves : Day → Option Entry → List Move
transfer_moves day None = []
transfer_moves day (Some e) = move_of day e ∷ []

abbrev pub moves_as : Sort → Day → History → ℕ → List Move
moves_as Liquidity day J n = transfer_moves day (transfer day n)
moves_as BatchD day J n = map (move_of day) (afforded_in_order (balance day J (technical_account day n)) (entries day n))
moves_as _ day J n = []

abbrev pub intake_moves : Day → History → ℕ → Code → List Move
intake_moves day J n line_codes.Ok = moves_as (sort_of day n) day J n
intake_moves day J n _ = []
