-- The table of intake codes at a given sort.
use Rattle.std.proofs.Common.{◌≡◌, ℕ, ◌+◌, Bool, true, false, not, ◌&&◌, List, [], ◌∷◌, Option, Some, None, refl, sym, ap, ◌∙◌}
use Rattle.std.specs.Prelude.{is_none, nat_lt, unwrap_or}
use Rattle.std.specs.List.{list_all}
use Rattle.std.specs.Option.{option_map_or}
use Rattle.std.proofs.lemmas.Bool.{false≢true}
use Rattle.cash_amounts.specs.Tests.{some_passes}
use Rattle.cash_amounts.specs.declared.records.Procedure.{Procedure}
use Rattle.cash_amounts.specs.declared.records.Procedure.TheVariants.{A, B, C, D, E}
use Rattle.batch_records.specs.DayRecord.{Day}
use Rattle.batch_records.specs.declared.day.Entry.{Entry}
use Rattle.batch_records.specs.declared.day.Message.{Message}
use Rattle.batch_records.specs.declared.day.Body.{Body}
use Rattle.batch_records.specs.declared.day.Body.TheVariants as bodies
use Rattle.batch_records.specs.Repeats.{message_at}
use Rattle.commit_journal.specs.declared.line.Code.{Code}
use Rattle.commit_journal.specs.declared.line.Code.TheVariants as line_codes
use Rattle.commit_journal.specs.Line.{History}
use Rattle.machine.specs.Words.{first_case, first_some, when}
use Rattle.machine.specs.Records.Messages.{Sort, Missing, Pay, Liquidity, Object, Confirm, Cycle, debit_account, entries, is_a_or_b, is_batch, procedure_of_sort, is_liquidity, is_repeat, sender, sort_of, sort_of_batch, sort_of_body, transfer}
use Rattle.machine.specs.Records.Setup.{is_system, uses}
use Rattle.machine.specs.Records.Reserves.{kept}
use Rattle.machine.specs.Telling.Balances.{balance}
use Rattle.machine.specs.Telling.Facts.{open_cycle}
use Rattle.machine.specs.Stages.Intake.{accounts_are_wrong, count_is_wrong, cycle_is_wrong, cycle_is_wrong_in, entry_fits, intake_code, is_locked, is_no_party, is_not_zero, phase_is_wrong, procedure_is_unused, sender_is_wrong, sum_is_wrong, target_is_missing, times_are_wrong}
use Rattle.rule_book.specs.IntakeParts.{common_fault, has_cycles, own_code}

-- the code of a message of this sort, where it is known whether a cycle forbids it
unfoldable pub code_by : Day → History → ℕ → Sort → Bool → Code
code_by day J n s cycle = first_case (
    (is_repeat day n, line_codes.Du)
    ∷ (sender_is_wrong s day (sender day n), line_codes.Us)
    ∷ (procedure_is_unused s day (sender day n), line_codes.Pr)
    ∷ (count_is_wrong day n, line_codes.Ct)
    ∷ (sum_is_wrong day n, line_codes.Sm)
    ∷ (is_not_zero s day n, line_codes.Nz)
    ∷ (not (list_all (entry_fits s day n) (entries day n)), line_codes.En)
    ∷ (times_are_wrong s day J n, line_codes.Ti)
    ∷ (cycle, line_codes.Cy)
    ∷ (accounts_are_wrong s day n, line_codes.Ac)
    ∷ (is_liquidity s && some_passes (λ e. is_locked day J (debit_account day e)) (transfer day n), line_codes.Lk)
    ∷ (is_liquidity s && some_passes (λ e. nat_lt (balance day J (debit_account day e)) (e.amount + kept day (debit_account day e) false)) (transfer day n), line_codes.Nc)
    ∷ (target_is_missing s day J n, line_codes.Bt)
    ∷ (phase_is_wrong s day J n, line_codes.Ph)
    ∷ (is_no_party s day J n, line_codes.Np)
    ∷ []) line_codes.Ok

pub code-open : (day : Day) (J : History) (n : ℕ) → intake_code day J n ≡ code_by day J n (sort_of day n) (cycle_is_wrong day J n)
unfolding intake_code code_by
code-open day J n = refl

-- ---- of a batch

pub batch_sort : (p : Procedure) → is_batch (sort_of_batch p) ≡ true
batch_sort A = refl
batch_sort B = refl
batch_sort C = refl
batch_sort D = refl
batch_sort E = refl

no_batch : {X : Type 0} (s : Sort) (p : Procedure) → is_batch s ≡ false → s ≡ sort_of_batch p → X
no_batch s p none h = absurd (false≢true (sym none ∙ ap is_batch h ∙ batch_sort p))

of_sort : (p : Procedure) → procedure_of_sort (sort_of_batch p) ≡ p
of_sort A = refl
of_sort B = refl
of_sort C = refl
of_sort D = refl
of_sort E = refl

-- a cycle has to be open for a batch of C, and for no other
cycle_of : (p : Procedure) (day : Day) (H : History) (from : List ℕ) (info early till : Option ℕ) (count sum : ℕ) (es : List Entry) → cycle_is_wrong_in day H from (bodies.Batch p info early till count sum es) ≡ (has_cycles p && is_none (open_cycle day from H))
cycle_of A day H from info early till count sum es = refl
cycle_of B day H from info early till count sum es = refl
cycle_of C day H from info early till count sum es = refl
cycle_of D day H from info early till count sum es = refl
cycle_of E day H from info early till count sum es = refl

cycle_in : (p : Procedure) (day : Day) (H : History) (from : List ℕ) (b : Body) → sort_of_body b ≡ sort_of_batch p → cycle_is_wrong_in day H from b ≡ (has_cycles p && is_none (open_cycle day from H))
cycle_in p day H from (bodies.Batch q info early till count sum es) h =
    cycle_of q day H from info early till count sum es ∙ ap (λ x. has_cycles x && is_none (open_cycle day from H)) (sym (of_sort q) ∙ ap procedure_of_sort h ∙ of_sort p)
cycle_in p day H from (bodies.Pay high debit credit amount) h = no_batch Pay p refl h
cycle_in p day H from (bodies.Liquidity debit credit amount) h = no_batch Liquidity p refl h
cycle_in p day H from (bodies.Object system batch) h = no_batch Object p refl h
cycle_in p day H from (bodies.Confirm batch answer) h = no_batch Confirm p refl h
cycle_in p day H from (bodies.Cycle start) h = no_batch Cycle p refl h

cycle_at : (p : Procedure) (day : Day) (H : History) (o : Option Message) → option_map_or (λ (m : Message). sort_of_body m.body) o Missing ≡ sort_of_batch p
    → some_passes (λ (m : Message). cycle_is_wrong_in day H m.sender m.body) o ≡ (has_cycles p && is_none (open_cycle day (option_map_or (λ (m : Message). m.sender) o []) H))
cycle_at p day H None h = no_batch Missing p refl h
cycle_at p day H (Some m) h = cycle_in p day H m.sender m.body h

pub asks_for_cycle : (p : Procedure) (day : Day) (J : History) (n : ℕ) → sort_of day n ≡ sort_of_batch p → cycle_is_wrong day J n ≡ (has_cycles p && is_none (open_cycle day (sender day n) J))
asks_for_cycle p day J n h = cycle_at p day J (message_at day n) h

-- five rows first
five_first : (a b c d e : Bool) (rows : List (Bool × Code)) → first_case ((a, line_codes.Du) ∷ (b, line_codes.Us) ∷ (c, line_codes.Pr) ∷ (d, line_codes.Ct) ∷ (e, line_codes.Sm) ∷ rows) line_codes.Ok
    ≡ unwrap_or (first_some (when a line_codes.Du ∷ when b line_codes.Us ∷ when c line_codes.Pr ∷ when d line_codes.Ct ∷ when e line_codes.Sm ∷ [])) (first_case rows line_codes.Ok)
five_first true b c d e rows = refl
five_first false true c d e rows = refl
five_first false false true d e rows = refl
five_first false false false true e rows = refl
five_first false false false false true rows = refl
five_first false false false false false rows = refl

-- those of the procedure itself
abbrev own_rows : Procedure → Day → History → ℕ → List (Bool × Code)
own_rows p day H n =
    (is_not_zero (sort_of_batch p) day n, line_codes.Nz)
    ∷ (not (list_all (entry_fits (sort_of_batch p) day n) (entries day n)), line_codes.En)
    ∷ (times_are_wrong (sort_of_batch p) day H n, line_codes.Ti)
    ∷ (has_cycles p && is_none (open_cycle day (sender day n) H), line_codes.Cy)
    ∷ []

both_parts : (p : Procedure) (day : Day) (H : History) (n : ℕ) →
    first_case ((is_repeat day n, line_codes.Du) ∷ (not (is_system day (sender day n)), line_codes.Us) ∷ (not (uses day (sender day n) p), line_codes.Pr) ∷ (count_is_wrong day n, line_codes.Ct) ∷ (sum_is_wrong day n, line_codes.Sm) ∷ own_rows p day H n) line_codes.Ok
    ≡ unwrap_or (common_fault p day n) (own_code p day H n)
unfolding common_fault own_code
both_parts p day H n = five_first (is_repeat day n) (not (is_system day (sender day n))) (not (uses day (sender day n) p)) (count_is_wrong day n) (sum_is_wrong day n) (own_rows p day H n)

by_procedure : (p : Procedure) (day : Day) (H : History) (n : ℕ) → code_by day H n (sort_of_batch p) (has_cycles p && is_none (open_cycle day (sender day n) H)) ≡ unwrap_or (common_fault p day n) (own_code p day H n)
unfolding code_by
by_procedure A day H n = both_parts A day H n
by_procedure B day H n = both_parts B day H n
by_procedure C day H n = both_parts C day H n
by_procedure D day H n = both_parts D day H n
by_procedure E day H n = both_parts E day H n

-- the rows that all batches have, and then those of the procedure
pub batch_code : (p : Procedure) (day : Day) (J : History) (n : ℕ) → sort_of day n ≡ sort_of_batch p → intake_code day J n ≡ unwrap_or (common_fault p day n) (own_code p day J n)
batch_code p day J n h =
    code-open day J n
    ∙ ap (λ s. code_by day J n s (cycle_is_wrong day J n)) h
    ∙ ap (code_by day J n (sort_of_batch p)) (asks_for_cycle p day J n h)
    ∙ by_procedure p day J n

pub faulty : (p : Procedure) (day : Day) (J : History) (n : ℕ) (c : Code) → sort_of day n ≡ sort_of_batch p → common_fault p day n ≡ Some c → intake_code day J n ≡ c
faulty p day J n c h e = batch_code p day J n h ∙ ap (λ o. unwrap_or o (own_code p day J n)) e

pub faultless : (p : Procedure) (day : Day) (J : History) (n : ℕ) → sort_of day n ≡ sort_of_batch p → common_fault p day n ≡ None → intake_code day J n ≡ own_code p day J n
faultless p day J n h e = batch_code p day J n h ∙ ap (λ o. unwrap_or o (own_code p day J n)) e

-- A and B have the same rows
pub same_sides : (p : Procedure) (day : Day) (J : History) (n : ℕ) → is_a_or_b (sort_of_batch p) ≡ true → own_code p day J n ≡ own_code A day J n
unfolding own_code
same_sides A day J n h = refl
same_sides B day J n h = refl
same_sides _ day J n h = cc
