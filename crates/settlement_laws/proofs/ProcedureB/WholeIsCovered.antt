-- A batch that settles whole leaves no account below zero: its debits come first, and its credits come from what they bring.
use Rattle.std.proofs.Common.{◌≡◌, ℕ, zero, suc, ◌+◌, ◌-◌, ◌≤◌, ◌<◌, Bool, true, false, List, [], ◌∷◌, ◌++◌, refl, sym, ◌∙◌, ap, subst, arith, cond, ◌⊎◌, inl, inr}
use Rattle.std.specs.Prelude.{nat_eq, nat_le, if◌then◌else◌, map, take, length, sum_by, filter}
use Rattle.std.specs.List.{list_all}
use Rattle.std.proofs.lemmas.Bool.{eqb-true, eq-eqb, leb-true, leb-false, and_parts}
use Rattle.std.proofs.lemmas.List.{take-append-le}
use Rattle.std.proofs.Math.Seq.{take-append-add}
use Rattle.std.proofs.lemmas.List.Sums.{sum_by-cons}
use Rattle.batch_records.specs.DayRecord.{Day}
use Rattle.batch_records.specs.declared.day.Entry.{Entry}
use Rattle.commit_journal.specs.declared.line.Move.{Move}
use Rattle.commit_journal.specs.Line.{History}
use Rattle.machine.specs.Records.Setup.{opening}
use Rattle.machine.specs.Records.Messages.{move_of, debit_account}
use Rattle.machine.specs.Telling.Balances.{credits, debits, credited, debited, balance}
use Rattle.machine.specs.Stages.Intake.{amount_of}
use Rattle.machine.specs.Laws.{StaysCovered}
use Rattle.settlement_laws.proofs.Balances.CoveredMoves.{IsCovered, AllFrom, amounts, debits_within}

pub debits-append : (a : ℕ) (xs ys : List Move) → debits a (xs ++ ys) ≡ debits a xs + debits a ys
debits-append a [] ys = omega arith
debits-append a (m ∷ xs) ys = let k : debits a (xs ++ ys) ≡ debits a xs + debits a ys = debits-append a xs ys in omega arith

pub credits-append : (a : ℕ) (xs ys : List Move) → credits a (xs ++ ys) ≡ credits a xs + credits a ys
credits-append a [] ys = omega arith
credits-append a (m ∷ xs) ys = let k : credits a (xs ++ ys) ≡ credits a xs + credits a ys = credits-append a xs ys in omega arith

debits_take : (a i : ℕ) (xs : List Move) → debits a (take i xs) ≤ debits a xs
debits_take a zero xs = omega arith
debits_take a (suc i) [] = omega arith
debits_take a (suc i) (m ∷ xs) = let k : debits a (take i xs) ≤ debits a xs = debits_take a i xs in omega arith

-- d are the debits, none of them from t; c are the credits, all of them from t, and no more than d brings to t
whole_at : (day : Day) (J : History) (t : ℕ) (d c : List Move) → IsCovered day J → debits t d ≡ 0 → ((a : ℕ) → (a ≡ t → ⊥) → debits a d ≤ balance day J a) → AllFrom t c → amounts c ≤ credits t d →
    (a i : ℕ) → (b : Bool) → nat_eq t a ≡ b → (i ≤ length d) ⊎ ((j : ℕ) × (i ≡ length d + j)) → debited J a + debits a (take i (d ++ c)) ≤ (opening day a + credited J a) + credits a (take i (d ++ c))
whole_at day J t d c base none each from enough a i false e (inl s) =
    let w : take i (d ++ c) ≡ take i d = take-append-le i d c s in
    rw w (
    let h : debits a d ≤ (opening day a + credited J a) - debited J a = each a (λ q. no_bool (sym e ∙ eq-eqb t a (sym q))) in
    let k : debits a (take i d) ≤ debits a d = debits_take a i d in
    let b : debited J a ≤ opening day a + credited J a = base a in
    omega arith)
  where
    no_bool : false ≡ true → ⊥
    no_bool z = cc
whole_at day J t d c base none each from enough a i true e (inl s) =
    let w : take i (d ++ c) ≡ take i d = take-append-le i d c s in
    rw w (
    let h : debits a d ≡ 0 = subst (λ x. debits x d ≡ 0) (eqb-true t a e) none in
    let k : debits a (take i d) ≤ debits a d = debits_take a i d in
    let b : debited J a ≤ opening day a + credited J a = base a in
    omega arith)
whole_at day J t d c base none each from enough a i false e (inr s) =
    let w : take i (d ++ c) ≡ d ++ take s.0 c = ap (λ x. take x (d ++ c)) s.1 ∙ take-append-add d c s.0 in
    rw w (
    let h : debits a d ≤ (opening day a + credited J a) - debited J a = each a (λ q. no_bool (sym e ∙ eq-eqb t a (sym q))) in
    let m : debits a (d ++ take s.0 c) ≡ debits a d + debits a (take s.0 c) = debits-append a d (take s.0 c) in
    let z : debits a (take s.0 c) ≤ 0 = subst (λ x. debits a (take s.0 c) ≤ (if x then amounts c else 0)) e (debits_within t a s.0 c from) in
    let b : debited J a ≤ opening day a + credited J a = base a in
    omega arith)
  where
    no_bool : false ≡ true → ⊥
    no_bool z = cc
whole_at day J t d c base none each from enough a i true e (inr s) =
    let w : take i (d ++ c) ≡ d ++ take s.0 c = ap (λ x. take x (d ++ c)) s.1 ∙ take-append-add d c s.0 in
    rw w (
    let h : debits a d ≡ 0 = subst (λ x. debits x d ≡ 0) (eqb-true t a e) none in
    let m : debits a (d ++ take s.0 c) ≡ debits a d + debits a (take s.0 c) = debits-append a d (take s.0 c) in
    let z : debits a (take s.0 c) ≤ amounts c = subst (λ x. debits a (take s.0 c) ≤ (if x then amounts c else 0)) e (debits_within t a s.0 c from) in
    let g : amounts c ≤ credits a d = subst (λ x. amounts c ≤ credits x d) (eqb-true t a e) enough in
    let n : credits a (d ++ take s.0 c) ≡ credits a d + credits a (take s.0 c) = credits-append a d (take s.0 c) in
    let b : debited J a ≤ opening day a + credited J a = base a in
    omega arith)

pub in_two : (i n : ℕ) → (i ≤ n) ⊎ ((j : ℕ) × (i ≡ n + j))
in_two i n = here (nat_le i n) refl
  where
    here : (b : Bool) → nat_le i n ≡ b → (i ≤ n) ⊎ ((j : ℕ) × (i ≡ n + j))
    here true e = inl (leb-true i n e)
    here false e = let h : n < i = leb-false i n e in inr (i - n, omega arith)

pub whole_stays : (day : Day) (J : History) (t : ℕ) (d c : List Move) → IsCovered day J → debits t d ≡ 0 → ((a : ℕ) → (a ≡ t → ⊥) → debits a d ≤ balance day J a) → AllFrom t c → amounts c ≤ credits t d → StaysCovered day J (d ++ c)
whole_stays day J t d c base none each from enough a i = whole_at day J t d c base none each from enough a i (nat_eq t a) refl (in_two i (length d))

-- ---- the gross debits of each debtor account are covered

-- what entries take from an account
abbrev pub gross_of : Day → ℕ → List Entry → ℕ
gross_of day a es = sum_by amount_of (filter (λ e. nat_eq (debit_account day e) a) es)

pub debits_gross : (day : Day) (a : ℕ) (es : List Entry) → debits a (map (move_of day) es) ≡ gross_of day a es
debits_gross day a [] = refl
debits_gross day a (e ∷ es) = here (nat_eq (debit_account day e) a) (debits_gross day a es)
  where
    here : (b : Bool) → debits a (map (move_of day) es) ≡ gross_of day a es → (if b then e.amount else 0) + debits a (map (move_of day) es) ≡ sum_by amount_of (cond b (e ∷ filter (λ e. nat_eq (debit_account day e) a) es) (filter (λ e. nat_eq (debit_account day e) a) es))
    here true k = let n : sum_by amount_of (e ∷ filter (λ e. nat_eq (debit_account day e) a) es) ≡ e.amount + gross_of day a es = sum_by-cons amount_of e (filter (λ e. nat_eq (debit_account day e) a) es) in omega arith
    here false k = omega arith

-- an account is among the debtors, or nothing is taken from it
pub debtor_or_nothing : (day : Day) (test : ℕ → Bool) (a : ℕ) (es : List Entry) → list_all test (map (debit_account day) es) ≡ true → (gross_of day a es ≡ 0) ⊎ (test a ≡ true)
debtor_or_nothing day test a [] h = inl refl
debtor_or_nothing day test a (e ∷ es) h =
    let b = and_parts (test (debit_account day e)) _ h in
    here (nat_eq (debit_account day e) a) refl b.0 (debtor_or_nothing day test a es b.1)
  where
    here : (q : Bool) → nat_eq (debit_account day e) a ≡ q → test (debit_account day e) ≡ true → (gross_of day a es ≡ 0) ⊎ (test a ≡ true) →
        (sum_by amount_of (cond q (e ∷ filter (λ e. nat_eq (debit_account day e) a) es) (filter (λ e. nat_eq (debit_account day e) a) es)) ≡ 0) ⊎ (test a ≡ true)
    here true q t rest = inr (subst (λ z. test z ≡ true) (eqb-true (debit_account day e) a q) t)
    here false q t rest = rest
