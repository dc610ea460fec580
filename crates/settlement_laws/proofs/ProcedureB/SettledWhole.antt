-- The whole settlement of an accepted B batch, with and without the fund.
use Rattle.std.proofs.Common.{◌≡◌, ℕ, suc, ◌+◌, ◌≤◌, Bool, true, false, not, ◌&&◌, List, [], ◌∷◌, ◌++◌, Option, Some, None, refl, sym, ◌∙◌, ap, subst, arith, cond, inl, inr}
use Rattle.std.specs.Prelude.{is_some, nat_eq, if◌then◌else◌, map, unwrap_or, sum_by, filter}
use Rattle.std.specs.List.{list_all}
use Rattle.std.proofs.lemmas.Bool.{eqb-true, eq-eqb, ltb-false, ne_eqb, false_from_ne_true, not-true, not-false, and_parts}
use Rattle.std.proofs.lemmas.List.Sums.{sum_by-cons}
use Rattle.std.proofs.lemmas.Option.{same_Some}
use Rattle.batch_records.specs.DayRecord.{Day}
use Rattle.batch_records.specs.declared.day.Entry.{Entry}
use Rattle.cash_amounts.specs.declared.records.AccountRecord.{AccountRecord}
use Rattle.cash_amounts.specs.declared.records.AccountKind.{AccountKind}
use Rattle.cash_amounts.specs.declared.records.AccountKind.TheVariants as account_kinds
use Rattle.commit_journal.specs.Line.{History}
use Rattle.machine.specs.Words.{some_passes, same_name, same_procedure, is_dca, is_technical}
use Rattle.machine.specs.Records.Setup.{account_named, account_at, is_dca_account}
use Rattle.machine.specs.Records.Messages.{Sort, BatchB, sort_of, sender, entries, move_of, debit_account, credit_account, technical_of, technical_account, procedure_of, pays_technical, is_paid_from_technical, is_debit_entry, is_credit_entry, debit_entries, credit_entries, is_b}
use Rattle.machine.specs.Telling.Balances.{credits, debits, balance}
use Rattle.machine.specs.Stages.Intake.{amount_of, entry_fits, sides_differ, is_not_zero}
use Rattle.machine.specs.Stages.Phases.{phase}
use Rattle.machine.specs.Stages.Pending.{is_pending, pending_as, debtors}
use Rattle.machine.specs.Making.Lines.{may_settle_whole, gross, is_short_debtor}
use Rattle.machine.specs.Legal.{IsLegal}
use Rattle.machine.specs.Laws.{StaysCovered}
use Rattle.settlement_laws.proofs.Base.IntakeFacts.{accepted_taken}
use Rattle.settlement_laws.proofs.Base.PhaseLaws.{going_accepted}
use Rattle.settlement_laws.proofs.Base.Numbers.{FoundAt, position_found}
use Rattle.settlement_laws.proofs.Balances.MovesOfTheDay.{forms, pending_going, same_value}
use Rattle.settlement_laws.proofs.Balances.CoveredMoves.{IsCovered, AllFrom, amounts, amounts_of_map}
use Rattle.settlement_laws.proofs.ProcedureB.WholeIsCovered.{whole_stays, gross_of, debits_gross, debtor_or_nothing}
use Rattle.settlement_laws.proofs.ProcedureB.WholeMoves.{same_numbers}

-- ---- a DCA is no technical account

-- the account of this number has a kind that passes
abbrev pub HasKind : Day → (AccountKind → Bool) → ℕ → Type 0
HasKind day test a = (r : AccountRecord) × (account_at day a ≡ Some r) × (test r.kind ≡ true)

dca_not_technical : (k : AccountKind) → is_dca k ≡ true → is_technical k ≡ true → ⊥
dca_not_technical account_kinds.Dca h k = no k
  where
    no : false ≡ true → ⊥
    no z = cc
dca_not_technical _ h k = no h
  where
    no : false ≡ true → ⊥
    no z = cc

kinds_differ : (day : Day) (a b : ℕ) → HasKind day is_dca a → HasKind day is_technical b → a ≡ b → ⊥
kinds_differ day a b h k e =
    let r : h.0 ≡ k.0 = same_Some h.0 k.0 (sym h.1 ∙ ap (account_at day) e ∙ k.1) in
    dca_not_technical h.0.kind h.2 (subst (λ (x : AccountRecord). is_technical x.kind ≡ true) (sym r) k.2)

found_record : (o : Option AccountRecord) (test : AccountRecord → Bool) → some_passes test o ≡ true → (r : AccountRecord) × (o ≡ Some r) × (test r ≡ true)
found_record None test h = absurd (no h)
  where
    no : false ≡ true → ⊥
    no z = cc
found_record (Some r) test h = (r, refl, h)

pub dca_kind : (day : Day) (o : Option ℕ) → some_passes (λ a. some_passes (λ r. is_dca r.kind) (account_at day a)) o ≡ true → HasKind day is_dca (unwrap_or o 0)
dca_kind day None h = absurd (no h)
  where
    no : false ≡ true → ⊥
    no z = cc
dca_kind day (Some a) h = found_record (account_at day a) (λ r. is_dca r.kind) h

technical_kind : (day : Day) (system : List ℕ) (o : Option ℕ) → ((a : ℕ) → o ≡ Some a → HasKind day is_technical a) → is_some o ≡ true → HasKind day is_technical (unwrap_or o 0)
technical_kind day system None h k = absurd (no k)
  where
    no : false ≡ true → ⊥
    no z = cc
technical_kind day system (Some a) h k = h a refl

found_technical : (day : Day) (n a : ℕ) → technical_of day n ≡ Some a → HasKind day is_technical a
found_technical day n a e =
    let f : FoundAt (λ r. is_technical r.kind && same_name r.owner (sender day n) && some_passes (λ q. same_procedure q (procedure_of day n)) r.procedure) 1 day.accounts a = position_found _ 1 day.accounts a e in
    (f.found, ap (account_at day) (f.number ∙ one_more f.place) ∙ f.is_there, (and_parts _ _ (and_parts _ _ f.passes).0).0)
  where
    one_more : (i : ℕ) → 1 + i ≡ suc i
    one_more i = omega arith

pub technical_is : (day : Day) (n : ℕ) → is_some (technical_of day n) ≡ true → HasKind day is_technical (technical_account day n)
technical_is day n = technical_kind day (sender day n) (technical_of day n) (found_technical day n)

-- ---- what the form of an entry tells

pub record Sides (day : Day) (n : ℕ) (e : Entry) : Type 0 where
  pub debit_side : is_debit_entry day n e ≡ true → (credit_account day e ≡ technical_account day n) × (debit_account day e ≡ technical_account day n → ⊥) × (is_paid_from_technical day n e ≡ false) × HasKind day is_dca (debit_account day e)
  pub credit_side : is_debit_entry day n e ≡ false → (debit_account day e ≡ technical_account day n) × (is_paid_from_technical day n e ≡ true)

pub sides : (day : Day) (n : ℕ) (e : Entry) → entry_fits BatchB day n e ≡ true → Sides day n e
sides day n e h = record {
  debit_side = λ p. elim (forms (is_dca_account day e.debit) (pays_technical day n e) (is_paid_from_technical day n e) (is_dca_account day e.credit) h) [
    | inl l ↦ debit_form l.0 p
    | inr r ↦ absurd (kinds_differ day (credit_account day e) (technical_account day n) (dca_kind day (account_named day e.credit) r.1) (technical_is day n (same_value _ _ p)) (same_numbers (account_named day e.credit) (technical_of day n) p))
  ];
  credit_side = λ p. elim (forms (is_dca_account day e.debit) (pays_technical day n e) (is_paid_from_technical day n e) (is_dca_account day e.credit) h) [
    | inl l ↦ absurd (no (sym p ∙ l.1))
    | inr r ↦ (same_numbers (account_named day e.debit) (technical_of day n) r.0, r.0)
  ];
}
  where
    no : false ≡ true → ⊥
    no z = cc

    apart : is_dca_account day e.debit ≡ true → is_some (technical_of day n) ≡ true → debit_account day e ≡ technical_account day n → ⊥
    apart d t q = kinds_differ day (debit_account day e) (technical_account day n) (dca_kind day (account_named day e.debit) d) (technical_is day n t) q

    debit_form : is_dca_account day e.debit ≡ true → is_debit_entry day n e ≡ true → (credit_account day e ≡ technical_account day n) × (debit_account day e ≡ technical_account day n → ⊥) × (is_paid_from_technical day n e ≡ false) × HasKind day is_dca (debit_account day e)
    debit_form d p =
        let t : is_some (technical_of day n) ≡ true = same_value (account_named day e.credit) (technical_of day n) p in
        (same_numbers (account_named day e.credit) (technical_of day n) p, apart d t, false_from_ne_true (is_paid_from_technical day n e) (λ q. apart d t (same_numbers (account_named day e.debit) (technical_of day n) q)), dca_kind day (account_named day e.debit) d)

-- ---- the moves of its entries

module _ (day : Day) (n : ℕ) where
  -- nothing comes from the technical account while the debits are booked, and all of them go to it
  debits_none : (es : List Entry) → list_all (entry_fits BatchB day n) es ≡ true → debits (technical_account day n) (map (move_of day) (filter (is_debit_entry day n) es)) ≡ 0
  debits_none [] h = refl
  debits_none (e ∷ es) h = let b = and_parts (entry_fits BatchB day n e) _ h in here (is_debit_entry day n e) refl (sides day n e b.0) (debits_none es b.1)
    where
      here : (q : Bool) → is_debit_entry day n e ≡ q → Sides day n e → debits (technical_account day n) (map (move_of day) (filter (is_debit_entry day n) es)) ≡ 0 →
          debits (technical_account day n) (map (move_of day) (cond q (e ∷ filter (is_debit_entry day n) es) (filter (is_debit_entry day n) es))) ≡ 0
      here true p s k = let z : (if nat_eq (debit_account day e) (technical_account day n) then e.amount else 0) ≡ 0 = ap (λ x. if x then e.amount else 0) (ne_eqb _ _ (s.debit_side p).1) in omega arith
      here false p s k = k

  credits_all : (es : List Entry) → list_all (entry_fits BatchB day n) es ≡ true → credits (technical_account day n) (map (move_of day) (filter (is_debit_entry day n) es)) ≡ sum_by amount_of (filter (is_debit_entry day n) es)
  credits_all [] h = refl
  credits_all (e ∷ es) h = let b = and_parts (entry_fits BatchB day n e) _ h in here (is_debit_entry day n e) refl (sides day n e b.0) (credits_all es b.1)
    where
      here : (q : Bool) → is_debit_entry day n e ≡ q → Sides day n e → credits (technical_account day n) (map (move_of day) (filter (is_debit_entry day n) es)) ≡ sum_by amount_of (filter (is_debit_entry day n) es) →
          credits (technical_account day n) (map (move_of day) (cond q (e ∷ filter (is_debit_entry day n) es) (filter (is_debit_entry day n) es))) ≡ sum_by amount_of (cond q (e ∷ filter (is_debit_entry day n) es) (filter (is_debit_entry day n) es))
      here true p s k =
          let z : (if nat_eq (credit_account day e) (technical_account day n) then e.amount else 0) ≡ e.amount = ap (λ x. if x then e.amount else 0) (eq-eqb _ _ (s.debit_side p).0) in
          let c : sum_by amount_of (e ∷ filter (is_debit_entry day n) es) ≡ e.amount + sum_by amount_of (filter (is_debit_entry day n) es) = sum_by-cons amount_of e (filter (is_debit_entry day n) es) in
          omega arith
      here false p s k = k

  pub credits_from : (es : List Entry) → list_all (entry_fits BatchB day n) es ≡ true → AllFrom (technical_account day n) (map (move_of day) (filter (is_credit_entry day n) es))
  credits_from [] h = tt
  credits_from (e ∷ es) h = let b = and_parts (entry_fits BatchB day n e) _ h in here (is_debit_entry day n e) refl (sides day n e b.0) (credits_from es b.1)
    where
      here : (q : Bool) → is_debit_entry day n e ≡ q → Sides day n e → AllFrom (technical_account day n) (map (move_of day) (filter (is_credit_entry day n) es)) →
          AllFrom (technical_account day n) (map (move_of day) (cond (not q) (e ∷ filter (is_credit_entry day n) es) (filter (is_credit_entry day n) es)))
      here true p s k = k
      here false p s k = ((s.credit_side p).0, k)

  -- the entries that are paid from the technical account are the credit entries
  pub paid_sum : (es : List Entry) → list_all (entry_fits BatchB day n) es ≡ true → sum_by amount_of (filter (is_credit_entry day n) es) ≡ sum_by amount_of (filter (is_paid_from_technical day n) es)
  paid_sum [] h = refl
  paid_sum (e ∷ es) h = let b = and_parts (entry_fits BatchB day n e) _ h in here (is_debit_entry day n e) (is_paid_from_technical day n e) refl refl (sides day n e b.0) (paid_sum es b.1)
    where
      here : (q r : Bool) → is_debit_entry day n e ≡ q → is_paid_from_technical day n e ≡ r → Sides day n e → sum_by amount_of (filter (is_credit_entry day n) es) ≡ sum_by amount_of (filter (is_paid_from_technical day n) es) →
          sum_by amount_of (cond (not q) (e ∷ filter (is_credit_entry day n) es) (filter (is_credit_entry day n) es)) ≡ sum_by amount_of (cond r (e ∷ filter (is_paid_from_technical day n) es) (filter (is_paid_from_technical day n) es))
      here true true p f s k = absurd (no (sym (s.debit_side p).2 ∙ f))
        where
          no : false ≡ true → ⊥
          no z = cc
      here true false p f s k = k
      here false true p f s k =
          let c : sum_by amount_of (e ∷ filter (is_credit_entry day n) es) ≡ e.amount + sum_by amount_of (filter (is_credit_entry day n) es) = sum_by-cons amount_of e (filter (is_credit_entry day n) es) in
          let d : sum_by amount_of (e ∷ filter (is_paid_from_technical day n) es) ≡ e.amount + sum_by amount_of (filter (is_paid_from_technical day n) es) = sum_by-cons amount_of e (filter (is_paid_from_technical day n) es) in
          omega arith
      here false false p f s k = absurd (no (sym f ∙ (s.credit_side p).1))
        where
          no : false ≡ true → ⊥
          no z = cc

-- ---- All

gross_covered : (day : Day) (J : History) (n a : ℕ) → list_all (λ a. not (is_short_debtor day J n a)) (debtors day n) ≡ true → debits a (map (move_of day) (debit_entries day n)) ≤ balance day J a
gross_covered day J n a h = elim (debtor_or_nothing day (λ a. not (is_short_debtor day J n a)) a (debit_entries day n) h) [
  | inl z ↦ (let g : debits a (map (move_of day) (debit_entries day n)) ≡ gross_of day a (debit_entries day n) = debits_gross day a (debit_entries day n) in zero_below (g ∙ z))
  | inr t ↦ subst (λ x. x ≤ balance day J a) (sym (debits_gross day a (debit_entries day n))) (ltb-false (balance day J a) (gross day n a) (not-true (is_short_debtor day J n a) t))
]
  where
    zero_below : {x y : ℕ} → x ≡ 0 → x ≤ y
    zero_below e = omega arith

pub b_fits : (s : Sort) (day : Day) (n : ℕ) → is_b s ≡ true → list_all (entry_fits s day n) (entries day n) ≡ true → list_all (entry_fits BatchB day n) (entries day n) ≡ true
b_fits BatchB day n b h = h
b_fits _ day n b h = cc

pub b_sides : (s : Sort) (day : Day) (n : ℕ) → is_b s ≡ true → is_not_zero s day n ≡ false → sides_differ day n ≡ false
b_sides BatchB day n b h = h
b_sides _ day n b h = cc

pub all_stays : (day : Day) (J : History) (n : ℕ) → IsLegal day J → IsCovered day J → may_settle_whole day J n ≡ true → StaysCovered day J (map (move_of day) (debit_entries day n) ++ map (move_of day) (credit_entries day n))
unfolding is_pending
all_stays day J n legal base h =
    let b = and_parts (is_b (sort_of day n)) (pending_as (sort_of day n) day J n 0 (phase day J n)) (and_parts _ _ (and_parts _ _ h).0).0 in
    let taken = accepted_taken day J n legal (going_accepted day J n (pending_going (sort_of day n) day J n 0 (phase day J n) b.1)) in
    let f : list_all (entry_fits BatchB day n) (entries day n) ≡ true = b_fits (sort_of day n) day n b.0 (not-false _ taken.passed_then.entries_right) in
    let even : sum_by amount_of (filter (pays_technical day n) (entries day n)) ≡ sum_by amount_of (filter (is_paid_from_technical day n) (entries day n)) = eqb-true _ _ (not-false _ (b_sides (sort_of day n) day n b.0 taken.passed_then.zero_right)) in
    whole_stays day J (technical_account day n) _ _ base (debits_none day n (entries day n) f) (λ a q. gross_covered day J n a (and_parts _ _ h).1) (credits_from day n (entries day n) f)
    (let x : amounts (map (move_of day) (credit_entries day n)) ≡ sum_by amount_of (credit_entries day n) = amounts_of_map (move_of day) (λ e. refl) (credit_entries day n) in
    let y : sum_by amount_of (credit_entries day n) ≡ sum_by amount_of (filter (is_paid_from_technical day n) (entries day n)) = paid_sum day n (entries day n) f in
    let z : credits (technical_account day n) (map (move_of day) (debit_entries day n)) ≡ sum_by amount_of (debit_entries day n) = credits_all day n (entries day n) f in
    le_of (x ∙ y ∙ sym even ∙ sym z))
  where
    le_of : {x y : ℕ} → x ≡ y → x ≤ y
    le_of e = omega arith
