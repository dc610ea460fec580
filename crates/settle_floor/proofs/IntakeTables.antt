-- For a message that is no batch the table of intake codes has few rows.
use Rattle.std.proofs.Common.{◌≡◌, ℕ, ◌+◌, Bool, true, false, ◌&&◌, not, List, [], ◌∷◌, Option, Some, None, refl, ap, ◌∙◌}
use Rattle.std.specs.Prelude.{nat_lt}
use Rattle.std.specs.List.{list_all}
use Rattle.std.specs.Option.{option_map_or}
use Rattle.cash_amounts.specs.declared.records.Procedure.TheVariants.{A, B, C, D, E}
use Rattle.batch_records.specs.DayRecord.{Day}
use Rattle.batch_records.specs.declared.day.Message.{Message}
use Rattle.batch_records.specs.declared.day.Body.{Body}
use Rattle.batch_records.specs.declared.day.Body.TheVariants as bodies
use Rattle.commit_journal.specs.declared.line.Code.{Code}
use Rattle.commit_journal.specs.declared.line.Code.TheVariants as line_codes
use Rattle.commit_journal.specs.Line.{History}
use Rattle.machine.specs.Words.{first_case, some_passes}
use Rattle.machine.specs.Records.Messages.{Sort, Missing, Pay, Liquidity, Object, Confirm, Cycle, debit_account, entries, entries_in, is_batch, is_confirm, is_cycle, is_liquidity, is_object, is_pay, is_repeat, message_at, sender, sort_of, sort_of_body, transfer}
use Rattle.machine.specs.Records.Reserves.{kept}
use Rattle.machine.specs.Telling.Balances.{balance}
use Rattle.machine.specs.Stages.Intake.{accounts_are_wrong, count_is_wrong, cycle_is_wrong, cycle_is_wrong_in, entry_fits, intake_code, is_locked, is_no_party, is_not_zero, phase_is_wrong, procedure_is_unused, sender_is_wrong, sum_is_wrong, target_is_missing, times_are_wrong}
use Rattle.rule_book.proofs.Codes.{batch_sort, code_by, code-open}
use Rattle.machine.proofs.SortFacts.{pay_is}
use Rattle.settle_floor.specs.Codes.{answer_code, cycle_code, cycle_is_misplaced, cycle_message_is_misplaced, objection_code, payment_code, transfer_code}

-- ---- sorts

pub liquidity_is : (s : Sort) → is_liquidity s ≡ true → s ≡ Liquidity
liquidity_is Liquidity h = refl
liquidity_is _ h = cc

pub object_is : (s : Sort) → is_object s ≡ true → s ≡ Object
object_is Object h = refl
object_is _ h = cc

pub confirm_is : (s : Sort) → is_confirm s ≡ true → s ≡ Confirm
confirm_is Confirm h = refl
confirm_is _ h = cc

pub cycle_is : (s : Sort) → is_cycle s ≡ true → s ≡ Cycle
cycle_is Cycle h = refl
cycle_is _ h = cc

-- ---- what is no batch has no entries, no count and no sum

no_entries_in : (b : Body) → is_batch (sort_of_body b) ≡ false → entries_in b ≡ []
no_entries_in (bodies.Batch p info early till count sum es) h = let e = batch_sort p in cc
no_entries_in _ h = refl

no_entries_of : (o : Option Message) → is_batch (option_map_or (λ (m : Message). sort_of_body m.body) o Missing) ≡ false → option_map_or (λ (m : Message). entries_in m.body) o [] ≡ []
no_entries_of None h = refl
no_entries_of (Some m) h = no_entries_in m.body h

pub no_entries : (day : Day) (n : ℕ) → is_batch (sort_of day n) ≡ false → entries day n ≡ []
no_entries day n h = no_entries_of (message_at day n) h

-- ---- the table, with the rows of batches as arguments

unfoldable rows_by : Day → History → ℕ → Sort → Bool → Bool → Bool → Bool → Code
rows_by day J n s cycle count sum form = first_case (
    (is_repeat day n, line_codes.Du)
    ∷ (sender_is_wrong s day (sender day n), line_codes.Us)
    ∷ (procedure_is_unused s day (sender day n), line_codes.Pr)
    ∷ (count, line_codes.Ct)
    ∷ (sum, line_codes.Sm)
    ∷ (is_not_zero s day n, line_codes.Nz)
    ∷ (form, line_codes.En)
    ∷ (times_are_wrong s day J n, line_codes.Ti)
    ∷ (cycle, line_codes.Cy)
    ∷ (accounts_are_wrong s day n, line_codes.Ac)
    ∷ (is_liquidity s && some_passes (λ e. is_locked day J (debit_account day e)) (transfer day n), line_codes.Lk)
    ∷ (is_liquidity s && some_passes (λ e. nat_lt (balance day J (debit_account day e)) (e.amount + kept day (debit_account day e) false)) (transfer day n), line_codes.Nc)
    ∷ (target_is_missing s day J n, line_codes.Bt)
    ∷ (phase_is_wrong s day J n, line_codes.Ph)
    ∷ (is_no_party s day J n, line_codes.Np)
    ∷ []) line_codes.Ok

rows-open : (day : Day) (J : History) (n : ℕ) (s : Sort) (cycle : Bool) → code_by day J n s cycle ≡ rows_by day J n s cycle (count_is_wrong day n) (sum_is_wrong day n) (not (list_all (entry_fits s day n) (entries day n)))
unfolding code_by rows_by
rows-open day J n s cycle = refl

no_count : (day : Day) (n : ℕ) → is_batch (sort_of day n) ≡ false → count_is_wrong day n ≡ false
no_count day n h = rw h refl

no_sum : (day : Day) (n : ℕ) → is_batch (sort_of day n) ≡ false → sum_is_wrong day n ≡ false
no_sum day n h = rw h refl

no_form : (day : Day) (n : ℕ) (s : Sort) → is_batch (sort_of day n) ≡ false → not (list_all (entry_fits s day n) (entries day n)) ≡ false
no_form day n s h = ap (λ es. not (list_all (entry_fits s day n) es)) (no_entries day n h)

rows_left : (day : Day) (J : History) (n : ℕ) (s : Sort) (cycle : Bool) → is_batch (sort_of day n) ≡ false → code_by day J n s cycle ≡ rows_by day J n s cycle false false false
rows_left day J n s cycle h =
    rows-open day J n s cycle
    ∙ ap (λ b. rows_by day J n s cycle b (sum_is_wrong day n) (not (list_all (entry_fits s day n) (entries day n)))) (no_count day n h)
    ∙ ap (λ b. rows_by day J n s cycle false b (not (list_all (entry_fits s day n) (entries day n)))) (no_sum day n h)
    ∙ ap (rows_by day J n s cycle false false) (no_form day n s h)

-- ---- cycles

misplaced_in : (day : Day) (J : History) (from : List ℕ) (b : Body) → is_batch (sort_of_body b) ≡ false → cycle_is_wrong_in day J from b ≡ cycle_is_misplaced day J from b
misplaced_in day J from (bodies.Batch p info early till count sum es) h = let e = batch_sort p in cc
misplaced_in day J from (bodies.Cycle true) h = refl
misplaced_in day J from (bodies.Cycle false) h = refl
misplaced_in day J from _ h = refl

misplaced_of : (day : Day) (J : History) (o : Option Message) → is_batch (option_map_or (λ (m : Message). sort_of_body m.body) o Missing) ≡ false →
    some_passes (λ (m : Message). cycle_is_wrong_in day J m.sender m.body) o ≡ some_passes (λ (m : Message). cycle_is_misplaced day J m.sender m.body) o
misplaced_of day J None h = refl
misplaced_of day J (Some m) h = misplaced_in day J m.sender m.body h

pub misplaced : (day : Day) (J : History) (n : ℕ) → is_batch (sort_of day n) ≡ false → cycle_is_wrong day J n ≡ cycle_message_is_misplaced day J n
misplaced day J n h = misplaced_of day J (message_at day n) h

-- whether the sort is one of those whose messages say nothing of cycles
abbrev is_plain : Sort → Bool
is_plain Pay = true
is_plain Liquidity = true
is_plain Object = true
is_plain Confirm = true
is_plain _ = false

no_cycle_in : (day : Day) (J : History) (from : List ℕ) (b : Body) → is_plain (sort_of_body b) ≡ true → cycle_is_wrong_in day J from b ≡ false
no_cycle_in day J from (bodies.Batch A info early till count sum es) h = cc
no_cycle_in day J from (bodies.Batch B info early till count sum es) h = cc
no_cycle_in day J from (bodies.Batch C info early till count sum es) h = cc
no_cycle_in day J from (bodies.Batch D info early till count sum es) h = cc
no_cycle_in day J from (bodies.Batch E info early till count sum es) h = cc
no_cycle_in day J from (bodies.Cycle start) h = cc
no_cycle_in day J from _ h = refl

no_cycle_of : (day : Day) (J : History) (o : Option Message) → is_plain (option_map_or (λ (m : Message). sort_of_body m.body) o Missing) ≡ true →
    some_passes (λ (m : Message). cycle_is_wrong_in day J m.sender m.body) o ≡ false
no_cycle_of day J None h = refl
no_cycle_of day J (Some m) h = no_cycle_in day J m.sender m.body h

no_cycle : (day : Day) (J : History) (n : ℕ) → is_plain (sort_of day n) ≡ true → cycle_is_wrong day J n ≡ false
no_cycle day J n h = no_cycle_of day J (message_at day n) h

-- ---- the table at each sort

plain_rows : (day : Day) (J : History) (n : ℕ) (s : Sort) → sort_of day n ≡ s → is_plain s ≡ true → is_batch s ≡ false → intake_code day J n ≡ rows_by day J n s false false false false
plain_rows day J n s e p b =
    code-open day J n
    ∙ ap (λ x. code_by day J n x (cycle_is_wrong day J n)) e
    ∙ ap (code_by day J n s) (no_cycle day J n (ap is_plain e ∙ p))
    ∙ rows_left day J n s false (ap is_batch e ∙ b)

at_pay : (day : Day) (J : History) (n : ℕ) → rows_by day J n Pay false false false false ≡ payment_code day n
unfolding rows_by payment_code
at_pay day J n = refl

pub code_of_payment : (day : Day) (J : History) (n : ℕ) → is_pay (sort_of day n) ≡ true → intake_code day J n ≡ payment_code day n
code_of_payment day J n h = plain_rows day J n Pay (pay_is (sort_of day n) h) refl refl ∙ at_pay day J n

at_liquidity : (day : Day) (J : History) (n : ℕ) → rows_by day J n Liquidity false false false false ≡ transfer_code day J n
unfolding rows_by transfer_code
at_liquidity day J n = refl

pub code_of_transfer : (day : Day) (J : History) (n : ℕ) → is_liquidity (sort_of day n) ≡ true → intake_code day J n ≡ transfer_code day J n
code_of_transfer day J n h = plain_rows day J n Liquidity (liquidity_is (sort_of day n) h) refl refl ∙ at_liquidity day J n

at_object : (day : Day) (J : History) (n : ℕ) → rows_by day J n Object false false false false ≡ objection_code day J n
unfolding rows_by objection_code
at_object day J n = refl

pub code_of_objection : (day : Day) (J : History) (n : ℕ) → is_object (sort_of day n) ≡ true → intake_code day J n ≡ objection_code day J n
code_of_objection day J n h = plain_rows day J n Object (object_is (sort_of day n) h) refl refl ∙ at_object day J n

at_confirm : (day : Day) (J : History) (n : ℕ) → rows_by day J n Confirm false false false false ≡ answer_code day J n
unfolding rows_by answer_code
at_confirm day J n = refl

pub code_of_answer : (day : Day) (J : History) (n : ℕ) → is_confirm (sort_of day n) ≡ true → intake_code day J n ≡ answer_code day J n
code_of_answer day J n h = plain_rows day J n Confirm (confirm_is (sort_of day n) h) refl refl ∙ at_confirm day J n

at_cycle : (day : Day) (J : History) (n : ℕ) → rows_by day J n Cycle (cycle_message_is_misplaced day J n) false false false ≡ cycle_code day J n
unfolding rows_by cycle_code
at_cycle day J n = refl

pub code_of_cycle : (day : Day) (J : History) (n : ℕ) → is_cycle (sort_of day n) ≡ true → intake_code day J n ≡ cycle_code day J n
code_of_cycle day J n h =
    let e : sort_of day n ≡ Cycle = cycle_is (sort_of day n) h in
    code-open day J n
    ∙ ap (λ x. code_by day J n x (cycle_is_wrong day J n)) e
    ∙ ap (code_by day J n Cycle) (misplaced day J n (ap is_batch e))
    ∙ rows_left day J n Cycle (cycle_message_is_misplaced day J n) (ap is_batch e)
    ∙ at_cycle day J n
