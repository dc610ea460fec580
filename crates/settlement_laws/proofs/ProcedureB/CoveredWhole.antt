-- The whole settlement of a B batch that the fund covers.
use Rattle.std.proofs.Common.{◌≡◌, ℕ, suc, ◌+◌, ◌≤◌, Bool, true, false, not, ◌&&◌, List, [], ◌∷◌, Option, Some, None, refl, sym, ◌∙◌, ap, subst, arith, cond}
use Rattle.std.specs.Prelude.{is_some, nat_eq, nat_le, if◌then◌else◌, map, unwrap_or, sum_by, filter}
use Rattle.std.specs.List.{list_all}
use Rattle.std.proofs.lemmas.Bool.{eqb-true, eq-eqb, ltb-false, leb-true, ne_eqb, not-false, and_parts}
use Rattle.std.proofs.lemmas.List.Sums.{sum_by-cons}
use Rattle.std.proofs.lemmas.Option.{same_Some}
use Rattle.batch_records.specs.DayRecord.{Day}
use Rattle.batch_records.specs.declared.day.Entry.{Entry}
use Rattle.cash_amounts.specs.declared.records.AccountRecord.{AccountRecord}
use Rattle.cash_amounts.specs.declared.records.AccountKind.{AccountKind}
use Rattle.cash_amounts.specs.declared.records.AccountKind.TheVariants as account_kinds
use Rattle.commit_journal.specs.declared.line.Move.{Move}
use Rattle.commit_journal.specs.Line.{History}
use Rattle.machine.specs.Words.{same_name, is_dca, is_technical, is_fund}
use Rattle.machine.specs.Records.Setup.{account_at, uses, technical, lists_procedure}
use Rattle.cash_amounts.specs.declared.records.Procedure.TheVariants.{B}
use Rattle.machine.specs.Records.Messages.{Sort, BatchB, sort_of, procedure_of_sort, sender, entries, move_of, debit_account, credit_account, technical_of, technical_account, fund_of, fund_account, pays_technical, is_paid_from_technical, is_debit_entry, debit_entries, credit_entries, is_a_or_b}
use Rattle.machine.specs.Telling.Balances.{credits, debits, balance}
use Rattle.machine.specs.Stages.Intake.{amount_of, entry_fits, sides_differ, is_not_zero, procedure_is_unused}
use Rattle.machine.specs.Stages.Phases.{phase, is_answered}
use Rattle.machine.specs.Making.Lines.{may_cover, gross, is_short_debtor, covered_debit, cover_of, cover_moves, need_as}
use Rattle.machine.specs.Legal.{IsLegal}
use Rattle.machine.specs.Laws.{StaysCovered}
use Rattle.settlement_laws.proofs.Base.IntakeFacts.{accepted_taken}
use Rattle.settlement_laws.proofs.Base.PhaseLaws.{going_accepted, answered_going, answered_asked}
use Rattle.settlement_laws.proofs.Base.Numbers.{FoundAt, position_found}
use Rattle.settlement_laws.proofs.Balances.MovesOfTheDay.{asked_fund}
use Rattle.settlement_laws.proofs.Balances.CoveredMoves.{IsCovered, amounts, amounts_of_map}
use Rattle.settlement_laws.proofs.ProcedureB.WholeIsCovered.{whole_stays, gross_of}
use Rattle.settlement_laws.proofs.Base.Distinct.{taken_where}
use Rattle.settlement_laws.proofs.ProcedureB.SettledWhole.{HasKind, Sides, sides, credits_from, paid_sum, technical_is}

-- ---- the fund is neither a DCA nor a technical account

no_true : false ≡ true → ⊥
no_true e = cc

fund_not_technical : (k : AccountKind) → is_fund k ≡ true → is_technical k ≡ true → ⊥
fund_not_technical account_kinds.Fund h k = no_true k
fund_not_technical _ h k = no_true h

fund_not_dca : (k : AccountKind) → is_fund k ≡ true → is_dca k ≡ true → ⊥
fund_not_dca account_kinds.Fund h k = no_true k
fund_not_dca _ h k = no_true h

apart : (day : Day) (p q : AccountKind → Bool) → ((k : AccountKind) → p k ≡ true → q k ≡ true → ⊥) → (a b : ℕ) → HasKind day p a → HasKind day q b → a ≡ b → ⊥
apart day p q never a b h k e =
    let r : h.0 ≡ k.0 = same_Some h.0 k.0 (sym h.1 ∙ ap (account_at day) e ∙ k.1) in
    never h.0.kind h.2 (subst (λ (x : AccountRecord). q x.kind ≡ true) (sym r) k.2)

found_fund : (day : Day) (n : ℕ) (o : Option ℕ) → fund_of day n ≡ o → is_some o ≡ true → HasKind day is_fund (unwrap_or o 0)
found_fund day n None e h = absurd (no_true h)
found_fund day n (Some a) e h =
    let f : FoundAt (λ r. is_fund r.kind && same_name r.owner (sender day n)) 1 day.accounts a = position_found _ 1 day.accounts a e in
    (f.found, ap (account_at day) (f.number ∙ one_more f.place) ∙ f.is_there, (and_parts _ _ f.passes).0)
  where
    one_more : (i : ℕ) → 1 + i ≡ suc i
    one_more i = omega arith

where_is : (day : Day) (p : ℕ → Bool) (es : List Entry) → sum_by amount_of (filter (λ e. p (debit_account day e)) es) ≡ taken_where day p es
where_is day p [] = refl
where_is day p (e ∷ es) = here (p (debit_account day e)) (where_is day p es)
  where
    more : List Entry
    more = filter (λ e. p (debit_account day e)) es

    here : (b : Bool) → sum_by amount_of more ≡ taken_where day p es → sum_by amount_of (cond b (e ∷ more) more) ≡ (if b then e.amount else 0) + taken_where day p es
    here true k = let c : sum_by amount_of (e ∷ more) ≡ e.amount + sum_by amount_of more = sum_by-cons amount_of e more in omega arith
    here false k = omega (arith, k)

-- ---- the moves of the debit entries

module _ (day : Day) (J : History) (n : ℕ) (fund_kind : HasKind day is_fund (fund_account day n)) where
  from_technical : (es : List Entry) → list_all (entry_fits BatchB day n) es ≡ true → is_some (technical_of day n) ≡ true → debits (technical_account day n) (map (covered_debit day J n) (filter (is_debit_entry day n) es)) ≡ 0
  from_technical [] h t = refl
  from_technical (e ∷ es) h t = let b = and_parts (entry_fits BatchB day n e) _ h in here (is_debit_entry day n e) refl (is_short_debtor day J n (debit_account day e)) refl (sides day n e b.0) (from_technical es b.1 t)
    where
      no_fund : nat_eq (fund_account day n) (technical_account day n) ≡ false
      no_fund = ne_eqb _ _ (apart day is_fund is_technical fund_not_technical (fund_account day n) (technical_account day n) fund_kind (technical_is day n t))

      rest : List Move
      rest = map (covered_debit day J n) (filter (is_debit_entry day n) es)

      one : (s : Bool) → is_debit_entry day n e ≡ true → Sides day n e → debits (technical_account day n) ((if s then cover_of day n e else move_of day e) ∷ rest) ≡ debits (technical_account day n) rest
      one true p s = let z : (if nat_eq (fund_account day n) (technical_account day n) then e.amount else 0) ≡ 0 = ap (λ x. if x then e.amount else 0) no_fund in omega arith
      one false p s = let z : (if nat_eq (debit_account day e) (technical_account day n) then e.amount else 0) ≡ 0 = ap (λ x. if x then e.amount else 0) (ne_eqb _ _ (s.debit_side p).1) in omega arith

      here : (q : Bool) → is_debit_entry day n e ≡ q → (r : Bool) → is_short_debtor day J n (debit_account day e) ≡ r → Sides day n e → debits (technical_account day n) rest ≡ 0 →
          debits (technical_account day n) (map (covered_debit day J n) (cond q (e ∷ filter (is_debit_entry day n) es) (filter (is_debit_entry day n) es))) ≡ 0
      here false p r w s k = k
      here true p r w s k = one (is_short_debtor day J n (debit_account day e)) p s ∙ k

  to_technical : (es : List Entry) → list_all (entry_fits BatchB day n) es ≡ true → credits (technical_account day n) (map (covered_debit day J n) (filter (is_debit_entry day n) es)) ≡ sum_by amount_of (filter (is_debit_entry day n) es)
  to_technical [] h = refl
  to_technical (e ∷ es) h = let b = and_parts (entry_fits BatchB day n e) _ h in here (is_debit_entry day n e) refl (sides day n e b.0) (to_technical es b.1)
    where
      rest : List Move
      rest = map (covered_debit day J n) (filter (is_debit_entry day n) es)

      one : (s : Bool) → is_debit_entry day n e ≡ true → Sides day n e → credits (technical_account day n) ((if s then cover_of day n e else move_of day e) ∷ rest) ≡ e.amount + credits (technical_account day n) rest
      one true p s = let z : (if nat_eq (technical_account day n) (technical_account day n) then e.amount else 0) ≡ e.amount = ap (λ x. if x then e.amount else 0) (eq-eqb _ _ refl) in omega arith
      one false p s = let z : (if nat_eq (credit_account day e) (technical_account day n) then e.amount else 0) ≡ e.amount = ap (λ x. if x then e.amount else 0) (eq-eqb _ _ (s.debit_side p).0) in omega arith

      here : (q : Bool) → is_debit_entry day n e ≡ q → Sides day n e → credits (technical_account day n) rest ≡ sum_by amount_of (filter (is_debit_entry day n) es) →
          credits (technical_account day n) (map (covered_debit day J n) (cond q (e ∷ filter (is_debit_entry day n) es) (filter (is_debit_entry day n) es))) ≡ sum_by amount_of (cond q (e ∷ filter (is_debit_entry day n) es) (filter (is_debit_entry day n) es))
      here false p s k = k
      here true p s k =
          let o : credits (technical_account day n) (covered_debit day J n e ∷ rest) ≡ e.amount + credits (technical_account day n) rest = one (is_short_debtor day J n (debit_account day e)) p s in
          let c : sum_by amount_of (e ∷ filter (is_debit_entry day n) es) ≡ e.amount + sum_by amount_of (filter (is_debit_entry day n) es) = sum_by-cons amount_of e (filter (is_debit_entry day n) es) in
          omega arith

  debtor_no_fund : (e : Entry) → HasKind day is_dca (debit_account day e) → nat_eq (debit_account day e) (fund_account day n) ≡ false
  debtor_no_fund e k = ne_eqb _ _ (λ q. apart day is_fund is_dca fund_not_dca (fund_account day n) (debit_account day e) fund_kind k (sym q))

  -- the fund pays for the short debtors
  from_fund : (es : List Entry) → list_all (entry_fits BatchB day n) es ≡ true → debits (fund_account day n) (map (covered_debit day J n) (filter (is_debit_entry day n) es)) ≡ taken_where day (is_short_debtor day J n) (filter (is_debit_entry day n) es)
  from_fund [] h = refl
  from_fund (e ∷ es) h = let b = and_parts (entry_fits BatchB day n e) _ h in here (is_debit_entry day n e) refl (sides day n e b.0) (from_fund es b.1)
    where
      rest : List Move
      rest = map (covered_debit day J n) (filter (is_debit_entry day n) es)

      one : (s : Bool) → is_debit_entry day n e ≡ true → Sides day n e → debits (fund_account day n) ((if s then cover_of day n e else move_of day e) ∷ rest) ≡ (if s then e.amount else 0) + debits (fund_account day n) rest
      one true p s = let z : (if nat_eq (fund_account day n) (fund_account day n) then e.amount else 0) ≡ e.amount = ap (λ x. if x then e.amount else 0) (eq-eqb _ _ refl) in omega arith
      one false p s = let z : (if nat_eq (debit_account day e) (fund_account day n) then e.amount else 0) ≡ 0 = ap (λ x. if x then e.amount else 0) (debtor_no_fund e (s.debit_side p).3) in omega arith

      here : (q : Bool) → is_debit_entry day n e ≡ q → Sides day n e → debits (fund_account day n) rest ≡ taken_where day (is_short_debtor day J n) (filter (is_debit_entry day n) es) →
          debits (fund_account day n) (map (covered_debit day J n) (cond q (e ∷ filter (is_debit_entry day n) es) (filter (is_debit_entry day n) es))) ≡ taken_where day (is_short_debtor day J n) (cond q (e ∷ filter (is_debit_entry day n) es) (filter (is_debit_entry day n) es))
      here false p s k = k
      here true p s k = let o : debits (fund_account day n) (covered_debit day J n e ∷ rest) ≡ (if is_short_debtor day J n (debit_account day e) then e.amount else 0) + debits (fund_account day n) rest = one (is_short_debtor day J n (debit_account day e)) p s in omega arith

  -- another account pays its gross, or nothing where it is short
  from_other : (a : ℕ) → nat_eq (fund_account day n) a ≡ false → (es : List Entry) → debits a (map (covered_debit day J n) es) ≤ (if is_short_debtor day J n a then 0 else gross_of day a es)
  from_other a f [] = omega arith
  from_other a f (e ∷ es) = here (is_short_debtor day J n (debit_account day e)) refl (nat_eq (debit_account day e) a) refl (is_short_debtor day J n a) refl (from_other a f es)
    where
      fund_no : (if nat_eq (fund_account day n) a then e.amount else 0) ≡ 0
      fund_no = ap (λ x. if x then e.amount else 0) f

      more : List Entry
      more = filter (λ e. nat_eq (debit_account day e) a) es

      here : (s : Bool) → is_short_debtor day J n (debit_account day e) ≡ s → (q : Bool) → nat_eq (debit_account day e) a ≡ q → (t : Bool) → is_short_debtor day J n a ≡ t →
          debits a (map (covered_debit day J n) es) ≤ (if t then 0 else gross_of day a es) →
          debits a ((if s then cover_of day n e else move_of day e) ∷ map (covered_debit day J n) es) ≤ (if t then 0 else sum_by amount_of (cond q (e ∷ more) more))
      here true s q w true t k = let z : (if nat_eq (fund_account day n) a then e.amount else 0) ≡ 0 = fund_no in omega arith
      here true s true w false t k = absurd (no_true (sym t ∙ ap (is_short_debtor day J n) (sym (eqb-true (debit_account day e) a w)) ∙ s))
      here true s false w false t k = let z : (if nat_eq (fund_account day n) a then e.amount else 0) ≡ 0 = fund_no in omega arith
      here false s true w true t k = absurd (no_true (sym s ∙ ap (is_short_debtor day J n) (eqb-true (debit_account day e) a w) ∙ t))
      here false s false w true t k = let z : (if nat_eq (debit_account day e) a then e.amount else 0) ≡ 0 = ap (λ x. if x then e.amount else 0) w in omega arith
      here false s true w false t k =
          let z : (if nat_eq (debit_account day e) a then e.amount else 0) ≡ e.amount = ap (λ x. if x then e.amount else 0) w in
          let c : sum_by amount_of (e ∷ more) ≡ e.amount + sum_by amount_of more = sum_by-cons amount_of e more in
          omega arith
      here false s false w false t k = let z : (if nat_eq (debit_account day e) a then e.amount else 0) ≡ 0 = ap (λ x. if x then e.amount else 0) w in omega arith

  each_covered : (a : ℕ) → list_all (entry_fits BatchB day n) (entries day n) ≡ true → need_as BatchB day J n ≤ balance day J (fund_account day n) → debits a (map (covered_debit day J n) (debit_entries day n)) ≤ balance day J a
  each_covered a f enough = here (nat_eq (fund_account day n) a) refl
    where
      or_nothing : (t : Bool) → is_short_debtor day J n a ≡ t → (x : ℕ) → x ≤ (if t then 0 else gross_of day a (debit_entries day n)) → x ≤ balance day J a
      or_nothing true e x h = omega arith
      or_nothing false e x h = let g : gross day n a ≤ balance day J a = ltb-false (balance day J a) (gross day n a) e in omega arith

      here : (q : Bool) → nat_eq (fund_account day n) a ≡ q → debits a (map (covered_debit day J n) (debit_entries day n)) ≤ balance day J a
      here false e = or_nothing (is_short_debtor day J n a) refl _ (from_other a e (debit_entries day n))
      here true e =
          let x : debits (fund_account day n) (map (covered_debit day J n) (debit_entries day n)) ≡ taken_where day (is_short_debtor day J n) (debit_entries day n) = from_fund (entries day n) f in
          let z : need_as BatchB day J n ≡ taken_where day (is_short_debtor day J n) (debit_entries day n) = where_is day (is_short_debtor day J n) (debit_entries day n) in
          subst (λ b. debits b (map (covered_debit day J n) (debit_entries day n)) ≤ balance day J b) (eqb-true (fund_account day n) a e) (subst (λ v. v ≤ balance day J (fund_account day n)) (z ∙ sym x) enough)

  covered_whole : IsCovered day J → is_some (technical_of day n) ≡ true → list_all (entry_fits BatchB day n) (entries day n) ≡ true → sides_differ day n ≡ false → need_as BatchB day J n ≤ balance day J (fund_account day n) → StaysCovered day J (cover_moves BatchB day J n)
  covered_whole base t f even enough =
      whole_stays day J (technical_account day n) _ _ base (from_technical (entries day n) f t) (λ a q. each_covered a f enough) (credits_from day n (entries day n) f)
      (let x : amounts (map (move_of day) (credit_entries day n)) ≡ sum_by amount_of (credit_entries day n) = amounts_of_map (move_of day) (λ e. refl) (credit_entries day n) in
      let y : sum_by amount_of (credit_entries day n) ≡ sum_by amount_of (filter (is_paid_from_technical day n) (entries day n)) = paid_sum day n (entries day n) f in
      let z : credits (technical_account day n) (map (covered_debit day J n) (debit_entries day n)) ≡ sum_by amount_of (debit_entries day n) = to_technical (entries day n) f in
      let w : sum_by amount_of (filter (pays_technical day n) (entries day n)) ≡ sum_by amount_of (filter (is_paid_from_technical day n) (entries day n)) = eqb-true _ _ (not-false _ even) in
      le_of (x ∙ y ∙ sym w ∙ sym z))
    where
      le_of : {x y : ℕ} → x ≡ y → x ≤ y
      le_of e = omega arith

-- ---- Cover

cover_b_stays : (s : Sort) (day : Day) (J : History) (n : ℕ) → s ≡ BatchB → StaysCovered day J (cover_moves BatchB day J n) → StaysCovered day J (cover_moves s day J n)
cover_b_stays s day J n e h = subst (λ x. StaysCovered day J (cover_moves x day J n)) (sym e) h

used_technical : (day : Day) (n : ℕ) → sort_of day n ≡ BatchB → procedure_is_unused (sort_of day n) day (sender day n) ≡ false → is_some (technical_of day n) ≡ true
used_technical day n e h =
    let u : not (uses day (sender day n) B) ≡ false = subst (λ s. procedure_is_unused s day (sender day n) ≡ false) e h in
    subst (λ s. is_some (technical day (sender day n) (procedure_of_sort s)) ≡ true) (sym e) (and_parts (lists_procedure day (sender day n) B) (is_some (technical day (sender day n) B)) (not-false _ u)).1

pub cover_stays : (day : Day) (J : History) (n : ℕ) → IsLegal day J → IsCovered day J → sort_of day n ≡ BatchB → may_cover day J n ≡ true → StaysCovered day J (cover_moves BatchB day J n)
cover_stays day J n legal base e h =
    let c = and_parts _ (nat_le (need_as (sort_of day n) day J n) (balance day J (fund_account day n))) h in
    let o : is_answered (phase day J n) ≡ true = (and_parts (is_a_or_b (sort_of day n)) (is_answered (phase day J n)) (and_parts _ _ c.0).0).1 in
    let taken = accepted_taken day J n legal (going_accepted day J n (answered_going (phase day J n) o)) in
    let fund : HasKind day is_fund (fund_account day n) = found_fund day n (fund_of day n) refl (asked_fund day J n legal (answered_asked day J n o)) in
    covered_whole day J n fund base (used_technical day n e taken.passed_then.procedure_right)
    (subst (λ s. list_all (entry_fits s day n) (entries day n) ≡ true) e (not-false _ taken.passed_then.entries_right))
    (subst (λ s. is_not_zero s day n ≡ false) e taken.passed_then.zero_right)
    (leb-true _ _ (subst (λ s. nat_le (need_as s day J n) (balance day J (fund_account day n)) ≡ true) e c.1))
