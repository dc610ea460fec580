-- The batches of positions are balanced, and the code of an intake blames neither their number and sum nor their sides and forms.
use Rattle.std.proofs.Common.{◌≡◌, ◌≢◌, ℕ, zero, suc, Bool, true, false, not, cond, ◌&&◌, ◌||◌, ◌⊎◌, List, [], ◌∷◌, ◌++◌, length, filter, Option, None, Some, Ok, Err, ℤ, pos, negsuc, ◌-ℤ◌, refl, ap, ◌∙◌, sym, subst, arith, true≢false, inl, inr, append-nil, eq-eqb, if◌then◌else◌}
use Rattle.std.specs.Prelude.{sum_by, nat_eq}
use Rattle.std.specs.List.{cons_option, list_all}
use Rattle.std.specs.Option.{option_map_or}
use Rattle.std.proofs.lemmas.Bool.{and_parts, eqb-true}
use Rattle.std.proofs.lemmas.Int.{ints}
use Rattle.std.proofs.lemmas.List.Elements.{filter-append}
use Rattle.std.proofs.lemmas.List.Folds.{list_all-append}
use Rattle.cash_amounts.specs.declared.records.AccountKind.{AccountKind}
use Rattle.cash_amounts.specs.declared.records.AccountKind.TheVariants.{Dca, Sub, Tech, Fund}
use Rattle.cash_amounts.specs.declared.records.AccountRecord.{AccountRecord}
use Rattle.cash_amounts.specs.declared.records.Procedure.{Procedure}
use Rattle.cash_amounts.specs.declared.records.Procedure.TheVariants.{A, B}
use Rattle.batch_records.specs.declared.day.Body.{Body}
use Rattle.batch_records.specs.DayRecord.{Day}
use Rattle.batch_records.specs.declared.day.Entry.{Entry}
use Rattle.batch_records.specs.declared.day.Message.{Message}
use Rattle.commit_journal.specs.declared.line.Code.{Code}
use Rattle.commit_journal.specs.declared.line.Code.TheVariants as line_codes
use Rattle.commit_journal.specs.Line.{History}
use Rattle.account_book.proofs.Numbers.{found_is}
use Rattle.machine.specs.Words.{first_case, is_dca, is_empty, is_technical, numbered, same_account, same_name, same_procedure, some_passes}
use Rattle.machine.specs.Records.Setup.{account_at, account_named, is_dca_account, technical}
use Rattle.machine.specs.Records.Messages.{BatchA, BatchB, Missing, Sort, count_in, entries, entries_in, is_batch, is_paid_from_technical, is_repeat, message_at, pays_technical, procedure_of, procedure_of_sort, sender, sort_of, sort_of_batch, sort_of_body, stated_count, stated_sum, sum_in, technical_of}
use Rattle.machine.specs.Stages.Intake.{accounts_are_wrong, amount_of, count_is_wrong, cycle_is_wrong, debit_is_locked, debit_is_short, entry_fits, intake_code, is_no_party, is_not_zero, phase_is_wrong, procedure_is_unused, sender_is_wrong, sides_differ, sum_is_wrong, target_is_missing, times_are_wrong}
use Rattle.as_client.specs.declared.trade.Position.{Position}
use Rattle.as_client.specs.Netting.{is_nought, is_open}
use Rattle.as_client.specs.BatchOf.{batch_of, body_of_entries, credit_of, credits_of, debit_of, debits_of, entries_of_positions, sum_of_positions}
use Rattle.as_client.specs.NettingLaws.{AreAccounts, AreOpen, BatchesBalance, BatchesFitTheirProcedure, BatchesStateTheirOwn, FitsItsProcedure, IsBalanced, StatesItsOwn}
use Rattle.as_client.proofs.TakenCodes.{taken_never}
use Rattle.as_client.proofs.SumFacts.{all_owed, all_owing, credits_sum, debits_sum, nought_is, sum_is_sides}

-- ---- the batch that is made

-- positions that make a batch sum to zero, and it is the batch of their entries
record IsMade (positions : List Position) (technical : List ℕ) (p : Procedure) (info till : Option ℕ) (body : Body) : Type 0 where
  sum : sum_of_positions positions ≡ pos 0
  is : body_of_entries p info till (entries_of_positions technical positions) ≡ body

is_made : (positions : List Position) (technical : List ℕ) (p : Procedure) (info till : Option ℕ) (body : Body) → batch_of positions technical p info till ≡ Ok body
    → IsMade positions technical p info till body
unfolding batch_of
is_made positions technical p info till body made = by (is_nought (sum_of_positions positions)) refl made
  where
    by : (b : Bool) → is_nought (sum_of_positions positions) ≡ b
        → (if b then Ok (body_of_entries p info till (entries_of_positions technical positions)) else Err (sum_of_positions positions)) ≡ Ok body
        → IsMade positions technical p info till body
    by true e h = record { sum = nought_is (sum_of_positions positions) e; is = cc }
    by false e h = cc

equal_sides : (m n : ℕ) (z : ℤ) → z ≡ pos 0 → z ≡ pos m -ℤ pos n → n ≡ m
equal_sides m n z e f = omega (arith, ints)

sides_are_equal : (positions : List Position) (technical : List ℕ) → sum_of_positions positions ≡ pos 0
    → sum_by amount_of (debits_of technical positions) ≡ sum_by amount_of (credits_of technical positions)
sides_are_equal positions technical nought =
    debits_sum technical positions ∙ equal_sides (all_owed positions) (all_owing positions) (sum_of_positions positions) nought (sum_is_sides positions) ∙ sym (credits_sum technical positions)

pub batches_balance : BatchesBalance
batches_balance positions technical p info till body made =
    let m = is_made positions technical p info till body made in
    subst (IsBalanced positions technical) m.is (record { entries = refl; count = refl; sum = refl; sides = sides_are_equal positions technical m.sum })

-- ---- lists of entries

filter-all : (test : Entry → Bool) (es : List Entry) → list_all test es ≡ true → filter test es ≡ es
filter-all test [] all = refl
filter-all test (e ∷ es) all = let both = and_parts (test e) (list_all test es) all in rw both.0 (ap (λ xs. e ∷ xs) (filter-all test es both.1))

filter-none : (test : Entry → Bool) (es : List Entry) → list_all (λ e. not (test e)) es ≡ true → filter test es ≡ []
filter-none test [] all = refl
filter-none test (e ∷ es) all = by (test e) refl all (filter-none test es)
  where
    by : (b : Bool) → test e ≡ b → (not b && list_all (λ e. not (test e)) es) ≡ true → (list_all (λ e. not (test e)) es ≡ true → filter test es ≡ []) → cond b (e ∷ filter test es) (filter test es) ≡ []
    by true t h rest = cc
    by false t h rest = rest h

-- each entry that is made of an account which passes
module _ (technical : List ℕ) (passes : List ℕ → Bool) (test : Entry → Bool) where
  of_debits : ((account : List ℕ) (amount : ℕ) → passes account ≡ true → test (record { debit = account; credit = technical; amount = amount }) ≡ true) → (ps : List Position)
      → list_all (λ q. passes q.account) ps ≡ true → list_all test (debits_of technical ps) ≡ true
  of_debits each [] all = refl
  of_debits each (p ∷ ps) all = by p.sum (of_debits each ps both.1)
    where
      both : (passes p.account ≡ true) × (list_all (λ (q : Position). passes q.account) ps ≡ true)
      both = and_parts (passes p.account) (list_all (λ (q : Position). passes q.account) ps) all

      by : (z : ℤ) → list_all test (debits_of technical ps) ≡ true → list_all test (cons_option (debit_of technical p.account z) (debits_of technical ps)) ≡ true
      by (pos n) rest = rest
      by (negsuc n) rest = rw (each p.account (suc n) both.0) rest

  of_credits : ((account : List ℕ) (amount : ℕ) → passes account ≡ true → test (record { debit = technical; credit = account; amount = amount }) ≡ true) → (ps : List Position)
      → list_all (λ q. passes q.account) ps ≡ true → list_all test (credits_of technical ps) ≡ true
  of_credits each [] all = refl
  of_credits each (p ∷ ps) all = by p.sum (of_credits each ps both.1)
    where
      both : (passes p.account ≡ true) × (list_all (λ (q : Position). passes q.account) ps ≡ true)
      both = and_parts (passes p.account) (list_all (λ (q : Position). passes q.account) ps) all

      by : (z : ℤ) → list_all test (credits_of technical ps) ≡ true → list_all test (cons_option (credit_of technical p.account z) (credits_of technical ps)) ≡ true
      by (pos zero) rest = rest
      by (pos (suc n)) rest = rw (each p.account (suc n) both.0) rest
      by (negsuc n) rest = rest

-- open positions make some entries
not_empty : (xs : List Entry) (e : Entry) (ys : List Entry) → is_empty (xs ++ e ∷ ys) ≡ false
not_empty [] e ys = refl
not_empty (x ∷ xs) e ys = refl

some_entries : (technical : List ℕ) (ps : List Position) → is_empty ps ≡ false → list_all is_open ps ≡ true → is_empty (entries_of_positions technical ps) ≡ false
some_entries technical [] some all = cc
some_entries technical (p ∷ ps) some all = by p.sum (and_parts (is_open p) (list_all is_open ps) all).0
  where
    by : (z : ℤ) → not (is_nought z) ≡ true
        → is_empty (cons_option (debit_of technical p.account z) (debits_of technical ps) ++ cons_option (credit_of technical p.account z) (credits_of technical ps)) ≡ false
    by (pos zero) e = cc
    by (pos (suc n)) e = not_empty (debits_of technical ps) (record { debit = technical; credit = p.account; amount = suc n }) (credits_of technical ps)
    by (negsuc n) e = refl

-- ---- a technical account is no DCA

one_kind : (k : AccountKind) → is_dca k ≡ true → is_technical k ≡ true → ⊥
one_kind Dca d t = cc
one_kind Sub d t = cc
one_kind Tech d t = cc
one_kind Fund d t = cc

dca_is_apart : (day : Day) (name system : List ℕ) (p : Procedure) → is_dca_account day name ≡ true → same_account (account_named day name) (technical day system p) ≡ false
dca_is_apart day name system p dca = by (account_named day name) (technical day system p) refl dca
  where
    apart : (a b : ℕ) (same : Bool) → nat_eq a b ≡ same → technical day system p ≡ Some b → some_passes (λ r. is_dca r.kind) (account_at day a) ≡ true → same ≡ false
    apart a b false e there d = refl
    apart a b true e there d =
        let at = found_is (λ r. is_technical r.kind && same_name r.owner system && some_passes (λ q. same_procedure q p) r.procedure) day.accounts b there in
        let item : account_at day a ≡ Some at.item = ap (numbered day.accounts) (eqb-true a b e) ∙ at.there in
        let d2 : is_dca at.item.kind ≡ true = ap (some_passes (λ (r : AccountRecord). is_dca r.kind)) (sym item) ∙ d in
        let t1 = and_parts (is_technical at.item.kind && same_name at.item.owner system) (some_passes (λ q. same_procedure q p) at.item.procedure) at.passes in
        let t2 = and_parts (is_technical at.item.kind) (same_name at.item.owner system) t1.0 in
        absurd (one_kind at.item.kind d2 t2.0)

    by : (o t : Option ℕ) → technical day system p ≡ t → some_passes (λ a. some_passes (λ r. is_dca r.kind) (account_at day a)) o ≡ true → same_account o t ≡ false
    by None t there d = refl
    by (Some a) None there d = refl
    by (Some a) (Some b) there d = apart a b (nat_eq a b) refl there d

or_true : (b : Bool) → (b || true) ≡ true
or_true true = refl
or_true false = refl

debit_fits : (a b c d : Bool) → a ≡ true → b ≡ true → (a && b || c && d) ≡ true
debit_fits true true c d e f = refl
debit_fits true false c d e f = cc
debit_fits false b c d e f = cc

credit_fits : (a b c d : Bool) → c ≡ true → d ≡ true → (a && b || c && d) ≡ true
credit_fits a b true true e f = or_true (a && b)
credit_fits a b true false e f = cc
credit_fits a b false d e f = cc

no_count_fault : (b c d : Bool) → c ≡ false → d ≡ true → (b && (c || not d)) ≡ false
no_count_fault true false true e f = refl
no_count_fault false c d e f = refl
no_count_fault true true d e f = cc
no_count_fault true false false e f = cc

no_sum_fault : (b d : Bool) → d ≡ true → (b && not d) ≡ false
no_sum_fault true true e = refl
no_sum_fault false d e = refl
no_sum_fault true false e = cc

-- ---- a code that no row gives

module _ {X : Type 0} (blames : X → Bool) where
  abbrev gives_another : Bool × X → Bool
  gives_another row = not (blames row.1 && row.0)

  another : (b : Bool) (x rest : X) → not (blames x && b) ≡ true → blames rest ≡ false → blames (cond b x rest) ≡ false
  another false x rest e f = f
  another true x rest e f = alone (blames x) e
    where
      alone : (c : Bool) → not (c && true) ≡ true → c ≡ false
      alone false g = refl
      alone true g = cc

  never : (rows : List (Bool × X)) (otherwise : X) → blames otherwise ≡ false → list_all gives_another rows ≡ true → blames (first_case rows otherwise) ≡ false
  never [] otherwise last all = last
  never (row ∷ rows) otherwise last all =
      let both = and_parts (gives_another row) (list_all gives_another rows) all in
      another row.0 row.1 (first_case rows otherwise) both.0 (never rows otherwise last both.1)

abbrev blames_count : Code → Bool
blames_count line_codes.Ct = true
blames_count _ = false

abbrev blames_sum : Code → Bool
blames_sum line_codes.Sm = true
blames_sum _ = false

abbrev blames_sides : Code → Bool
blames_sides line_codes.Nz = true
blames_sides _ = false

abbrev blames_forms : Code → Bool
blames_forms line_codes.En = true
blames_forms _ = false

module _ (day : Day) (J : History) (n : ℕ) where
  unfoldable rows : List (Bool × Code)
  rows = (is_repeat day n, line_codes.Du)
      ∷ (sender_is_wrong (sort_of day n) day (sender day n), line_codes.Us)
      ∷ (procedure_is_unused (sort_of day n) day (sender day n), line_codes.Pr)
      ∷ (count_is_wrong day n, line_codes.Ct)
      ∷ (sum_is_wrong day n, line_codes.Sm)
      ∷ (is_not_zero (sort_of day n) day n, line_codes.Nz)
      ∷ (not (list_all (entry_fits (sort_of day n) day n) (entries day n)), line_codes.En)
      ∷ (times_are_wrong (sort_of day n) day J n, line_codes.Ti)
      ∷ (cycle_is_wrong day J n, line_codes.Cy)
      ∷ (accounts_are_wrong (sort_of day n) day n, line_codes.Ac)
      ∷ (debit_is_locked day J n, line_codes.Lk)
      ∷ (debit_is_short day J n, line_codes.Nc)
      ∷ (target_is_missing (sort_of day n) day J n, line_codes.Bt)
      ∷ (phase_is_wrong (sort_of day n) day J n, line_codes.Ph)
      ∷ (is_no_party (sort_of day n) day J n, line_codes.Np)
      ∷ []

  code_is : intake_code day J n ≡ first_case rows line_codes.Ok
  unfolding intake_code rows
  code_is = refl

  -- a code that a test tells apart, and no row gives
  other_code : (blames : Code → Bool) (code : Code) → blames code ≡ true → blames line_codes.Ok ≡ false → list_all (gives_another blames) rows ≡ true → intake_code day J n ≢ code
  other_code blames code own last all same = true≢false (sym own ∙ ap blames (sym same ∙ code_is) ∙ never blames rows line_codes.Ok last all)

  not_count : count_is_wrong day n ≡ false → intake_code day J n ≢ line_codes.Ct
  unfolding rows
  not_count right = other_code blames_count line_codes.Ct refl refl (ap (λ b. not b && true) right)

  not_sum : sum_is_wrong day n ≡ false → intake_code day J n ≢ line_codes.Sm
  unfolding rows
  not_sum right = other_code blames_sum line_codes.Sm refl refl (ap (λ b. not b && true) right)

  not_sides : is_not_zero (sort_of day n) day n ≡ false → intake_code day J n ≢ line_codes.Nz
  unfolding rows
  not_sides right = other_code blames_sides line_codes.Nz refl refl (ap (λ b. not b && true) right)

  not_forms : list_all (entry_fits (sort_of day n) day n) (entries day n) ≡ true → intake_code day J n ≢ line_codes.En
  unfolding rows
  not_forms right = other_code blames_forms line_codes.En refl refl (ap (λ b. not (not b) && true) right)

-- ---- the message of such a batch

module _ (day : Day) (n : ℕ) (m : Message) (positions : List Position) (name : List ℕ) (p : Procedure) (info till : Option ℕ)
    (there : message_at day n ≡ Some m) (made : IsMade positions name p info till m.body) where
  sort_is : sort_of day n ≡ sort_of_batch p
  sort_is = ap (λ o. option_map_or (λ (x : Message). sort_of_body x.body) o Missing) there ∙ ap sort_of_body (sym made.is)

  entries_are : entries day n ≡ entries_of_positions name positions
  entries_are = ap (λ o. option_map_or (λ (x : Message). entries_in x.body) o []) there ∙ ap entries_in (sym made.is)

  count_is : stated_count day n ≡ length (entries_of_positions name positions)
  count_is = ap (λ o. option_map_or (λ (x : Message). count_in x.body) o 0) there ∙ ap count_in (sym made.is)

  sum_is : stated_sum day n ≡ sum_by amount_of (entries_of_positions name positions)
  sum_is = ap (λ o. option_map_or (λ (x : Message). sum_in x.body) o 0) there ∙ ap sum_in (sym made.is)

  sender_is : sender day n ≡ m.sender
  sender_is = ap (λ o. option_map_or (λ (x : Message). x.sender) o []) there

  no_wrong_count : AreOpen positions → count_is_wrong day n ≡ false
  no_wrong_count are =
      no_count_fault (is_batch (sort_of day n)) (is_empty (entries day n)) (nat_eq (length (entries day n)) (stated_count day n))
      (ap is_empty entries_are ∙ some_entries name positions are.some are.each)
      (eq-eqb (length (entries day n)) (stated_count day n) (ap length entries_are ∙ sym count_is))

  no_wrong_sum : sum_is_wrong day n ≡ false
  no_wrong_sum =
      no_sum_fault (is_batch (sort_of day n)) (nat_eq (sum_by amount_of (entries day n)) (stated_sum day n))
      (eq-eqb (sum_by amount_of (entries day n)) (stated_sum day n) (ap (sum_by amount_of) entries_are ∙ sym sum_is))

  states_its_own : (J : History) → AreOpen positions → StatesItsOwn day J n
  states_its_own J are = record {
    count = not_count day J n (no_wrong_count are);
    sum = not_sum day J n no_wrong_sum;
    count_taken = taken_never day n line_codes.Ct (λ K. not_count day K n (no_wrong_count are)) J;
    sum_taken = taken_never day n line_codes.Sm (λ K. not_sum day K n no_wrong_sum) J;
  }

  -- over the system's technical account, and with DCAs
  module _ (sort : Sort) (is_sort : sort_of day n ≡ sort) (members : list_all (λ q. is_dca_account day q.account) positions ≡ true)
      (own : same_account (account_named day name) (technical_of day n) ≡ true) where
    apart : (account : List ℕ) → is_dca_account day account ≡ true → same_account (account_named day account) (technical_of day n) ≡ false
    apart account dca = dca_is_apart day account (sender day n) (procedure_of day n) dca

    debits_pay : filter (pays_technical day n) (entries day n) ≡ debits_of name positions
    debits_pay =
        let all = filter-all (pays_technical day n) (debits_of name positions) (of_debits name (is_dca_account day) (pays_technical day n) (λ account amount dca. own) positions members) in
        let none = filter-none (pays_technical day n) (credits_of name positions)
        (of_credits name (is_dca_account day) (λ e. not (pays_technical day n e)) (λ account amount dca. ap not (apart account dca)) positions members) in
        ap (filter (pays_technical day n)) entries_are ∙ filter-append (pays_technical day n) (debits_of name positions) (credits_of name positions) ∙ (λ j. all j ++ none j)
        ∙ append-nil (debits_of name positions)

    credits_are_paid : filter (is_paid_from_technical day n) (entries day n) ≡ credits_of name positions
    credits_are_paid =
        let none = filter-none (is_paid_from_technical day n) (debits_of name positions)
        (of_debits name (is_dca_account day) (λ e. not (is_paid_from_technical day n e)) (λ account amount dca. ap not (apart account dca)) positions members) in
        let all = filter-all (is_paid_from_technical day n) (credits_of name positions)
        (of_credits name (is_dca_account day) (is_paid_from_technical day n) (λ account amount dca. own) positions members) in
        ap (filter (is_paid_from_technical day n)) entries_are ∙ filter-append (is_paid_from_technical day n) (debits_of name positions) (credits_of name positions) ∙ (λ j. none j ++ all j)

    no_difference : sides_differ day n ≡ false
    no_difference =
        ap not (eq-eqb (sum_by amount_of (filter (pays_technical day n) (entries day n))) (sum_by amount_of (filter (is_paid_from_technical day n) (entries day n)))
        (ap (sum_by amount_of) debits_pay ∙ sides_are_equal positions name made.sum ∙ sym (ap (sum_by amount_of) credits_are_paid)))

    all_fit : ((account : List ℕ) (amount : ℕ) → is_dca_account day account ≡ true → entry_fits sort day n (record { debit = account; credit = name; amount = amount }) ≡ true)
        → ((account : List ℕ) (amount : ℕ) → is_dca_account day account ≡ true → entry_fits sort day n (record { debit = name; credit = account; amount = amount }) ≡ true)
        → list_all (entry_fits (sort_of day n) day n) (entries day n) ≡ true
    all_fit debit credit =
        let debits = of_debits name (is_dca_account day) (entry_fits sort day n) debit positions members in
        let credits = of_credits name (is_dca_account day) (entry_fits sort day n) credit positions members in
        ap (λ s. list_all (entry_fits s day n) (entries day n)) is_sort ∙ ap (list_all (entry_fits sort day n)) entries_are
        ∙ list_all-append (entry_fits sort day n) (debits_of name positions) (credits_of name positions) ∙ (λ j. debits j && credits j)

    fits_its_procedure : (J : History) → is_not_zero sort day n ≡ sides_differ day n → list_all (entry_fits (sort_of day n) day n) (entries day n) ≡ true → FitsItsProcedure day J n
    fits_its_procedure J same fit =
        let equal : is_not_zero (sort_of day n) day n ≡ false = ap (λ s. is_not_zero s day n) is_sort ∙ same ∙ no_difference in
        record {
          sides = not_sides day J n equal;
          forms = not_forms day J n fit;
          sides_taken = taken_never day n line_codes.Nz (λ K. not_sides day K n equal) J;
          forms_taken = taken_never day n line_codes.En (λ K. not_forms day K n fit) J;
        }

  -- the technical account in the words of the intake
  own_account : (sort : Sort) → sort_of day n ≡ sort → procedure_of_sort sort ≡ p → AreAccounts day m.sender p positions name → same_account (account_named day name) (technical_of day n) ≡ true
  own_account sort is_sort same are =
      let procedure : procedure_of day n ≡ p = ap procedure_of_sort is_sort ∙ same in
      (λ j. same_account (account_named day name) (technical day (sender_is j) (procedure j))) ∙ are.own

  fits_a : (J : History) → sort_of day n ≡ BatchA → same_account (account_named day name) (technical_of day n) ≡ true → list_all (λ q. is_dca_account day q.account) positions ≡ true → FitsItsProcedure day J n
  fits_a J is_sort own members = fits_its_procedure BatchA is_sort members own J refl (
      all_fit BatchA is_sort members own
      (λ account amount dca. debit_fits (is_dca_account day account) (same_account (account_named day name) (technical_of day n))
      (is_paid_from_technical day n (record { debit = account; credit = name; amount = amount })) (is_dca_account day name) dca own)
      (λ account amount dca. credit_fits (is_dca_account day name) (pays_technical day n (record { debit = name; credit = account; amount = amount }))
      (same_account (account_named day name) (technical_of day n)) (is_dca_account day account) own dca)
      )

  fits_b : (J : History) → sort_of day n ≡ BatchB → same_account (account_named day name) (technical_of day n) ≡ true → list_all (λ q. is_dca_account day q.account) positions ≡ true → FitsItsProcedure day J n
  fits_b J is_sort own members = fits_its_procedure BatchB is_sort members own J refl (
      all_fit BatchB is_sort members own
      (λ account amount dca. debit_fits (is_dca_account day account) (same_account (account_named day name) (technical_of day n))
      (is_paid_from_technical day n (record { debit = account; credit = name; amount = amount })) (is_dca_account day name) dca own)
      (λ account amount dca. credit_fits (is_dca_account day name) (pays_technical day n (record { debit = name; credit = account; amount = amount }))
      (same_account (account_named day name) (technical_of day n)) (is_dca_account day account) own dca)
      )

  fits : (J : History) → (p ≡ A) ⊎ (p ≡ B) → AreAccounts day m.sender p positions name → FitsItsProcedure day J n
  fits J (inl e) are = let sort : sort_of day n ≡ BatchA = sort_is ∙ ap sort_of_batch e in fits_a J sort (own_account BatchA sort (sym e) are) are.members
  fits J (inr e) are = let sort : sort_of day n ≡ BatchB = sort_is ∙ ap sort_of_batch e in fits_b J sort (own_account BatchB sort (sym e) are) are.members

pub batches_state_their_own : BatchesStateTheirOwn
batches_state_their_own day J n m positions name p info till there made are =
    states_its_own day n m positions name p info till there (is_made positions name p info till m.body made) J are

pub batches_fit_their_procedure : BatchesFitTheirProcedure
batches_fit_their_procedure day J n m positions name p info till there made procedure are =
    fits day n m positions name p info till there (is_made positions name p info till m.body made) J procedure are
