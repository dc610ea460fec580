-- The technical accounts of B hold nothing between two lines.
use Rattle.std.proofs.Common.{◌≡◌, ℕ, zero, suc, ◌+◌, Bool, true, false, ◌&&◌, List, [], ◌∷◌, ◌++◌, Option, Some, None, refl, sym, ◌∙◌, ap, subst, arith, inl, inr}
use Rattle.std.specs.Prelude.{nat_eq, if◌then◌else◌, map, sum_by, slice_get}
use Rattle.std.specs.List.{list_all}
use Rattle.std.specs.Option.{option_map_or}
use Rattle.std.proofs.lemmas.Bool.{eqb-true, eq-eqb, ne_eqb, not-true, not-false, and_parts}
use Rattle.std.proofs.lemmas.List.Sums.{sum_by-cons}
use Rattle.batch_records.specs.DayRecord.{Day}
use Rattle.batch_records.specs.declared.day.Entry.{Entry}
use Rattle.batch_records.specs.Sound.{is_sound}
use Rattle.cash_amounts.specs.declared.records.AccountRecord.{AccountRecord}
use Rattle.cash_amounts.specs.declared.records.SystemRecord.{SystemRecord}
use Rattle.cash_amounts.specs.declared.records.AccountKind.{AccountKind}
use Rattle.cash_amounts.specs.declared.records.AccountKind.TheVariants.{Tech}
use Rattle.cash_amounts.specs.declared.records.Procedure.{Procedure}
use Rattle.cash_amounts.specs.declared.records.Procedure.TheVariants.{B}
use Rattle.cash_amounts.specs.SoundSetup.{systems_are_sound, accounts_are_sound, fits, is_within_limits}
use Rattle.commit_journal.specs.declared.line.Move.{Move}
use Rattle.commit_journal.specs.declared.line.Code.{Code}
use Rattle.commit_journal.specs.declared.line.Kind.{Kind}
use Rattle.commit_journal.specs.declared.line.Kind.TheVariants as kinds
use Rattle.commit_journal.specs.Line.{History}
use Rattle.machine.specs.Words.{some_passes, is_technical, same_procedure}
use Rattle.machine.specs.Records.Setup.{account_at, is_dca_account, opening}
use Rattle.machine.specs.Records.Messages.{BatchB, sort_of, entries, debit_account, credit_account, technical_account, move_of, pays_technical, is_paid_from_technical, is_debit_entry, is_credit_entry, debit_entries, credit_entries, is_b, is_a_or_b}
use Rattle.machine.specs.Telling.Balances.{credits, debits, credited, debited, balance}
use Rattle.machine.specs.Stages.Intake.{amount_of, entry_fits}
use Rattle.machine.specs.Stages.Phases.{phase, is_answered}
use Rattle.machine.specs.Stages.Pending.{is_pending, pending_as}
use Rattle.machine.specs.Making.Lines.{may_settle_whole, may_cover, covered_debit, cover_moves, cover_of, is_short_debtor}
use Rattle.machine.specs.Legal.{IsLegal}
use Rattle.machine.specs.OtherLaws.{TechnicalOfBIsEmpty}
use Rattle.machine.proofs.SortFacts.{b_is}
use Rattle.settlement_laws.proofs.Base.Made.{Made, made_facts}
use Rattle.settlement_laws.proofs.Base.IntakeFacts.{Taken, accepted_taken}
use Rattle.settlement_laws.proofs.Base.PhaseLaws.{going_accepted, answered_going, answered_asked}
use Rattle.settlement_laws.proofs.Base.Lists.{IsIn, never, all_in, from_filter}
use Rattle.settlement_laws.proofs.Balances.MovesOfTheDay.{forms, pending_going, accepted_fits, asked_fund}
use Rattle.settlement_laws.proofs.Base.SoundParts.{sound_parts}
use Rattle.settlement_laws.proofs.ProcedureB.WholeIsCovered.{debits-append, credits-append}
use Rattle.settlement_laws.proofs.ProcedureB.SettledWhole.{sides, paid_sum, b_fits, b_sides}
use Rattle.settlement_laws.proofs.Balances.RolesOfAccounts.{role_as, role_of, role_at, dca_is, fund_is, to_technical}
use Rattle.settlement_laws.proofs.ProcedureA.DebitedByOwnBatches.{paid_to}
use Rattle.settlement_laws.proofs.Balances.MovesAreReal.{AllFair, line_fair}

-- ---- lines that stay away

module _ (day : Day) (a : ℕ) (b : role_at day a ≡ 5) where
  other : (x : ℕ) → nat_eq (role_at day x) 5 ≡ false → nat_eq x a ≡ false
  other x h = ne_eqb x a (λ e. never (nat_eq (role_at day x) 5) (eq-eqb (role_at day x) 5 (ap (role_at day) e ∙ b)) h)

  away_moves : (moves : List Move) → AllFair day false moves → credits a moves ≡ debits a moves
  away_moves [] h = refl
  away_moves (m ∷ moves) h =
      let f = (h m (inl refl)).away refl in
      let c : (if nat_eq m.credit a then m.amount else 0) ≡ 0 = ap (λ x. if x then m.amount else 0) (other m.credit f.1) in
      let d : (if nat_eq m.debit a then m.amount else 0) ≡ 0 = ap (λ x. if x then m.amount else 0) (other m.debit f.0) in
      let k : credits a moves ≡ debits a moves = away_moves moves (λ x i. h x (inr i)) in
      omega arith

  -- ---- entries that all pay to t, and none from a; and entries that are all paid from t, and none to a

  all_to : (t : ℕ) (f : Entry → Move) (es : List Entry) → ((e : Entry) → IsIn e es → ((f e).credit ≡ t) × ((f e).amount ≡ e.amount) × (nat_eq (f e).debit a ≡ false)) →
      (credits a (map f es) ≡ (if nat_eq t a then sum_by amount_of es else 0)) × (debits a (map f es) ≡ 0)
  all_to t f [] h = (zero_both (nat_eq t a) 0 refl, refl)
    where
      zero_both : (x : Bool) (v : ℕ) → v ≡ 0 → v ≡ (if x then v else 0)
      zero_both true v e = refl
      zero_both false v e = e
  all_to t f (e ∷ es) h =
      let k = all_to t f es (λ x i. h x (inr i)) in
      let g = h e (inl refl) in
      let d : (if nat_eq (f e).debit a then (f e).amount else 0) ≡ 0 = ap (λ x. if x then (f e).amount else 0) g.2 in
      let z : debits a (map f es) ≡ 0 = k.1 in
      (step (nat_eq t a) (nat_eq (f e).credit a) (ap (λ x. nat_eq x a) g.0) g.1 k.0, omega arith)
    where
      step : (x y : Bool) → y ≡ x → (f e).amount ≡ e.amount → credits a (map f es) ≡ (if x then sum_by amount_of es else 0) → (if y then (f e).amount else 0) + credits a (map f es) ≡ (if x then sum_by amount_of (e ∷ es) else 0)
      step true true q m k = let n : sum_by amount_of (e ∷ es) ≡ e.amount + sum_by amount_of es = sum_by-cons amount_of e es in omega (arith, m, k, n)
      step false false q m k = omega (arith, k)
      step true false q m k = cc
      step false true q m k = cc

  all_from : (t : ℕ) (f : Entry → Move) (es : List Entry) → ((e : Entry) → IsIn e es → ((f e).debit ≡ t) × ((f e).amount ≡ e.amount) × (nat_eq (f e).credit a ≡ false)) →
      (debits a (map f es) ≡ (if nat_eq t a then sum_by amount_of es else 0)) × (credits a (map f es) ≡ 0)
  all_from t f [] h = (zero_both (nat_eq t a) 0 refl, refl)
    where
      zero_both : (x : Bool) (v : ℕ) → v ≡ 0 → v ≡ (if x then v else 0)
      zero_both true v e = refl
      zero_both false v e = e
  all_from t f (e ∷ es) h =
      let k = all_from t f es (λ x i. h x (inr i)) in
      let g = h e (inl refl) in
      let d : (if nat_eq (f e).credit a then (f e).amount else 0) ≡ 0 = ap (λ x. if x then (f e).amount else 0) g.2 in
      let z : credits a (map f es) ≡ 0 = k.1 in
      (step (nat_eq t a) (nat_eq (f e).debit a) (ap (λ x. nat_eq x a) g.0) g.1 k.0, omega arith)
    where
      step : (x y : Bool) → y ≡ x → (f e).amount ≡ e.amount → debits a (map f es) ≡ (if x then sum_by amount_of es else 0) → (if y then (f e).amount else 0) + debits a (map f es) ≡ (if x then sum_by amount_of (e ∷ es) else 0)
      step true true q m k = let n : sum_by amount_of (e ∷ es) ≡ e.amount + sum_by amount_of es = sum_by-cons amount_of e es in omega (arith, m, k, n)
      step false false q m k = omega (arith, k)
      step true false q m k = cc
      step false true q m k = cc

  -- ---- a B batch that settles whole

  module _ (n : ℕ) (q : sort_of day n ≡ BatchB) (f : list_all (entry_fits BatchB day n) (entries day n) ≡ true) where
    fits_there : (e : Entry) → IsIn e (entries day n) → entry_fits BatchB day n e ≡ true
    fits_there e i = all_in (entry_fits BatchB day n) (entries day n) e f i

    dca_apart : (x : ℕ) → role_at day x ≡ 0 → nat_eq x a ≡ false
    dca_apart x h = other x (ap (λ r. nat_eq r 5) h)

    -- a debit entry is paid by a DCA
    debit_side : (e : Entry) → entry_fits BatchB day n e ≡ true → is_debit_entry day n e ≡ true → role_at day (debit_account day e) ≡ 0
    debit_side e h p = elim (forms (is_dca_account day e.debit) (pays_technical day n e) (is_paid_from_technical day n e) (is_dca_account day e.credit) h) [
      | inl l ↦ dca_is day e.debit l.0
      | inr r ↦ never (nat_eq (role_at day (credit_account day e)) 5) (eq-eqb (role_at day (credit_account day e)) 5 (to_technical day n e BatchB q p)) (ap (λ x. nat_eq x 5) (dca_is day e.credit r.1))
    ]

    -- a credit entry goes to a DCA
    credit_side : (e : Entry) → entry_fits BatchB day n e ≡ true → is_debit_entry day n e ≡ false → role_at day (credit_account day e) ≡ 0
    credit_side e h p = elim (forms (is_dca_account day e.debit) (pays_technical day n e) (is_paid_from_technical day n e) (is_dca_account day e.credit) h) [
      | inl l ↦ never (is_debit_entry day n e) l.1 p
      | inr r ↦ dca_is day e.credit r.1
    ]

    credits_even : (debits a (map (move_of day) (credit_entries day n)) ≡ (if nat_eq (technical_account day n) a then sum_by amount_of (credit_entries day n) else 0)) × (credits a (map (move_of day) (credit_entries day n)) ≡ 0)
    credits_even = all_from (technical_account day n) (move_of day) (credit_entries day n) (λ e i.
        let c = from_filter (is_credit_entry day n) (entries day n) e i in
        let h = fits_there e c.0 in
        let p = not-true (is_debit_entry day n e) c.1 in
        (((sides day n e h).credit_side p).0, refl, dca_apart (credit_account day e) (credit_side e h p)))

    debits_even : (g : Entry → Move) → ((e : Entry) → entry_fits BatchB day n e ≡ true → is_debit_entry day n e ≡ true → ((g e).credit ≡ technical_account day n) × ((g e).amount ≡ e.amount) × (nat_eq (g e).debit a ≡ false)) →
        (credits a (map g (debit_entries day n)) ≡ (if nat_eq (technical_account day n) a then sum_by amount_of (debit_entries day n) else 0)) × (debits a (map g (debit_entries day n)) ≡ 0)
    debits_even g h = all_to (technical_account day n) g (debit_entries day n) (λ e i. let c = from_filter (is_debit_entry day n) (entries day n) e i in h e (fits_there e c.0) c.1)

    even : (g : Entry → Move) → ((e : Entry) → entry_fits BatchB day n e ≡ true → is_debit_entry day n e ≡ true → ((g e).credit ≡ technical_account day n) × ((g e).amount ≡ e.amount) × (nat_eq (g e).debit a ≡ false)) →
        sum_by amount_of (debit_entries day n) ≡ sum_by amount_of (credit_entries day n) →
        credits a (map g (debit_entries day n) ++ map (move_of day) (credit_entries day n)) ≡ debits a (map g (debit_entries day n) ++ map (move_of day) (credit_entries day n))
    even g h s =
        let c = credits_even in
        let d = debits_even g h in
        let x : credits a (map g (debit_entries day n) ++ map (move_of day) (credit_entries day n)) ≡ credits a (map g (debit_entries day n)) + credits a (map (move_of day) (credit_entries day n)) = credits-append a _ _ in
        let y : debits a (map g (debit_entries day n) ++ map (move_of day) (credit_entries day n)) ≡ debits a (map g (debit_entries day n)) + debits a (map (move_of day) (credit_entries day n)) = debits-append a _ _ in
        let z : (if nat_eq (technical_account day n) a then sum_by amount_of (debit_entries day n) else 0) ≡ (if nat_eq (technical_account day n) a then sum_by amount_of (credit_entries day n) else 0) = ap (λ v. if nat_eq (technical_account day n) a then v else 0) s in
        x ∙ ap (λ v. credits a (map g (debit_entries day n)) + v) c.1 ∙ right_zero _ ∙ d.0 ∙ z ∙ sym c.0 ∙ sym (y ∙ ap (λ v. v + debits a (map (move_of day) (credit_entries day n))) d.1 ∙ left_zero _)
      where
        right_zero : (v : ℕ) → v + 0 ≡ v
        right_zero v = omega arith

        left_zero : (v : ℕ) → 0 + v ≡ v
        left_zero v = omega arith

    own_debit : (e : Entry) → entry_fits BatchB day n e ≡ true → is_debit_entry day n e ≡ true → ((move_of day e).credit ≡ technical_account day n) × ((move_of day e).amount ≡ e.amount) × (nat_eq (move_of day e).debit a ≡ false)
    own_debit e h p = (paid_to day n e p, refl, dca_apart (debit_account day e) (debit_side e h p))

    paid_debit : (J : History) → nat_eq (cover_of day n record { debit = []; credit = []; amount = 0 }).debit a ≡ false → (e : Entry) → entry_fits BatchB day n e ≡ true → is_debit_entry day n e ≡ true → ((covered_debit day J n e).credit ≡ technical_account day n) × ((covered_debit day J n e).amount ≡ e.amount) × (nat_eq (covered_debit day J n e).debit a ≡ false)
    paid_debit J fund e h p = here (is_short_debtor day J n (debit_account day e))
      where
        here : (x : Bool) → ((if x then cover_of day n e else move_of day e).credit ≡ technical_account day n) × ((if x then cover_of day n e else move_of day e).amount ≡ e.amount) × (nat_eq (if x then cover_of day n e else move_of day e).debit a ≡ false)
        here true = (refl, refl, fund)
        here false = own_debit e h p

  -- ---- every line

  same_sums : (n : ℕ) → sort_of day n ≡ BatchB → list_all (entry_fits BatchB day n) (entries day n) ≡ true → Taken day n → sum_by amount_of (debit_entries day n) ≡ sum_by amount_of (credit_entries day n)
  same_sums n q f t = eqb-true _ _ (not-false _ (b_sides (sort_of day n) day n (ap is_b q) t.passed_then.zero_right)) ∙ sym (paid_sum day n (entries day n) f)

  all_even : (J : History) (n : ℕ) → IsLegal day J → may_settle_whole day J n ≡ true → credits a (map (move_of day) (debit_entries day n) ++ map (move_of day) (credit_entries day n)) ≡ debits a (map (move_of day) (debit_entries day n) ++ map (move_of day) (credit_entries day n))
  unfolding is_pending
  all_even J n legal h =
      let c = and_parts (is_b (sort_of day n)) (pending_as (sort_of day n) day J n 0 (phase day J n)) (and_parts _ _ (and_parts _ _ h).0).0 in
      let ok = going_accepted day J n (pending_going (sort_of day n) day J n 0 (phase day J n) c.1) in
      let q = b_is (sort_of day n) c.0 in
      let f = b_fits (sort_of day n) day n c.0 (accepted_fits day J n legal ok) in
      even n q f (move_of day) (own_debit n q f) (same_sums n q f (accepted_taken day J n legal ok))

  cover_even : (J : History) (n : ℕ) → IsLegal day J → may_cover day J n ≡ true → is_b (sort_of day n) ≡ true → credits a (cover_moves (sort_of day n) day J n) ≡ debits a (cover_moves (sort_of day n) day J n)
  cover_even J n legal h c =
      let o : is_answered (phase day J n) ≡ true = (and_parts (is_a_or_b (sort_of day n)) (is_answered (phase day J n)) (and_parts _ _ (and_parts _ _ h).0).0).1 in
      let ok = going_accepted day J n (answered_going (phase day J n) o) in
      let q = b_is (sort_of day n) c in
      let f = b_fits (sort_of day n) day n c (accepted_fits day J n legal ok) in
      let fund = fund_is day n (asked_fund day J n legal (answered_asked day J n o)) in
      subst (λ s. credits a (cover_moves s day J n) ≡ debits a (cover_moves s day J n)) (sym q)
      (even n q f (covered_debit day J n) (paid_debit n q f J (other _ (ap (λ x. nat_eq x 5) fund))) (same_sums n q f (accepted_taken day J n legal ok)))

  line_even : (kind : Kind) (J : History) (n k : ℕ) (code : Code) (moves : List Move) → is_sound day ≡ true → IsLegal day J → Made kind day J n k code moves → credits a moves ≡ debits a moves
  line_even kinds.All J n k code moves sound legal m = subst (λ x. credits a x ≡ debits a x) (sym m.2) (all_even J n legal m.0)
  line_even kinds.Cover J n k code moves sound legal m = here (is_b (sort_of day n)) refl
    where
      here : (x : Bool) → is_b (sort_of day n) ≡ x → credits a moves ≡ debits a moves
      here true e = subst (λ x. credits a x ≡ debits a x) (sym m.2) (cover_even J n legal m.0 e)
      here false e = away_moves moves (subst (λ x. AllFair day x moves) e (line_fair kinds.Cover day J n k code moves sound legal m))
  line_even kinds.In J n k code moves sound legal m = away_moves moves (line_fair kinds.In day J n k code moves sound legal m)
  line_even kinds.Book J n k code moves sound legal m = away_moves moves (line_fair kinds.Book day J n k code moves sound legal m)
  line_even kinds.Expire J n k code moves sound legal m = away_moves moves (line_fair kinds.Expire day J n k code moves sound legal m)
  line_even kinds.Refuse J n k code moves sound legal m = away_moves moves (line_fair kinds.Refuse day J n k code moves sound legal m)
  line_even kinds.Sweep J n k code moves sound legal m = away_moves moves (line_fair kinds.Sweep day J n k code moves sound legal m)
  line_even kinds.Ask J n k code moves sound legal m = away_moves moves (line_fair kinds.Ask day J n k code moves sound legal m)
  line_even kinds.Time J n k code moves sound legal m = away_moves moves (line_fair kinds.Time day J n k code moves sound legal m)
  line_even kinds.End J n k code moves sound legal m = away_moves moves (line_fair kinds.End day J n k code moves sound legal m)

  history_even : (J : History) → is_sound day ≡ true → IsLegal day J → credited J a ≡ debited J a
  unfolding credited debited
  history_even [] sound legal = refl
  history_even (l ∷ J) sound legal =
      let k : credited J a ≡ debited J a = history_even J sound legal.0 in
      let e : credits a l.moves ≡ debits a l.moves = line_even l.head.kind J l.head.msg l.head.entry l.head.code l.moves sound legal.0 (made_facts day J l legal.1).1 in
      omega arith

-- ---- the opening

tech_opening : (k : AccountKind) (systems : List SystemRecord) (before : List AccountRecord) (r : AccountRecord) → is_technical k ≡ true → fits k systems before r ≡ true → r.opening ≡ 0
tech_opening Tech systems before r t h = eqb-true r.opening 0 (and_parts _ (nat_eq r.opening 0) h).1
tech_opening _ systems before r t h = cc

pub opens_empty : (systems : List SystemRecord) (before rs : List AccountRecord) (i : ℕ) (r : AccountRecord) → accounts_are_sound systems before rs ≡ true → slice_get rs i ≡ Some r → is_technical r.kind ≡ true → r.opening ≡ 0
opens_empty systems before [] i r h e t = cc
opens_empty systems before (x ∷ rs) zero r h e t =
    let f : fits x.kind systems before x ≡ true = (and_parts _ (fits x.kind systems before x) (and_parts _ _ h).0).1 in
    let same : x ≡ r = some_record x r e in
    subst (λ (y : AccountRecord). y.opening ≡ 0) same (tech_opening x.kind systems before x (subst (λ (y : AccountRecord). is_technical y.kind ≡ true) (sym same) t) f)
  where
    some_record : (x y : AccountRecord) → Some x ≡ Some y → x ≡ y
    some_record x y p = cc
opens_empty systems before (x ∷ rs) (suc i) r h e t = opens_empty systems (x ∷ before) rs i r (and_parts _ (accounts_are_sound systems (x ∷ before) rs) h).1 e t

abbrev is_technical_b : AccountRecord → Bool
is_technical_b r = is_technical r.kind && some_passes (λ p. same_procedure p B) r.procedure

b_role : (k : AccountKind) (p : Option Procedure) → (is_technical k && some_passes (λ q. same_procedure q B) p) ≡ true → role_as k p ≡ 5
b_role Tech (Some p) h = ap (λ x. 4 + x) (eqb-true _ _ h)
b_role Tech None h = cc
b_role _ p h = cc

pub technical_of_b_is_empty : (day : Day) (J : History) → is_sound day ≡ true → IsLegal day J → TechnicalOfBIsEmpty day J
technical_of_b_is_empty day J sound legal zero h = cc
technical_of_b_is_empty day J sound legal (suc i) h = here (account_at day (suc i)) refl h
  where
    accounts_are : accounts_are_sound day.systems [] day.accounts ≡ true
    accounts_are = (and_parts (systems_are_sound [] day.systems) (accounts_are_sound day.systems [] day.accounts) (and_parts _ (is_within_limits day.accounts day.systems) (sound_parts day sound).setup).0).1

    here : (o : Option AccountRecord) → account_at day (suc i) ≡ o → some_passes is_technical_b o ≡ true → balance day J (suc i) ≡ 0
    here None e h = cc
    here (Some r) e h =
        let t = and_parts (is_technical r.kind) (some_passes (λ p. same_procedure p B) r.procedure) h in
        let role : role_at day (suc i) ≡ 5 = ap (λ x. option_map_or role_of x 9) e ∙ b_role r.kind r.procedure h in
        let o : opening day (suc i) ≡ 0 = ap (λ x. option_map_or (λ (r : AccountRecord). r.opening) x 0) e ∙ opens_empty day.systems [] day.accounts i r accounts_are e t.0 in
        let k : credited J (suc i) ≡ debited J (suc i) = history_even day (suc i) role J sound legal in
        omega arith
