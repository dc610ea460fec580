-- Sums over accounts, each taken once.
use Rattle.std.proofs.Common.{◌≡◌, ℕ, zero, suc, ◌+◌, ◌≤◌, Bool, true, false, not, ◌&&◌, List, [], ◌∷◌, refl, sym, ◌∙◌, ap, subst, arith, cond, ◌⊎◌, inl, inr}
use Rattle.std.specs.Prelude.{nat_eq, if◌then◌else◌, map, sum_by, filter}
use Rattle.std.specs.List.{list_all}
use Rattle.std.proofs.lemmas.Bool.{and_parts, eqb-true, eq-eqb, ne_eqb, and_from}
use Rattle.std.proofs.lemmas.List.Sums.{sum_by-cons}
use Rattle.batch_records.specs.DayRecord.{Day}
use Rattle.batch_records.specs.declared.day.Entry.{Entry}
use Rattle.machine.specs.Records.Messages.{debit_account}
use Rattle.machine.specs.Stages.Intake.{amount_of}
use Rattle.settlement_laws.proofs.ProcedureB.WholeIsCovered.{gross_of}

-- the accounts in order of their first mention
abbrev pub once_each : List ℕ → List ℕ
once_each [] = []
once_each (a ∷ accounts) = a ∷ filter (λ b. not (nat_eq b a)) (once_each accounts)

abbrev pub others : ℕ → List ℕ → List ℕ
others x ys = filter (λ b. not (nat_eq b x)) ys

-- how often x stands in the list
occurs : ℕ → List ℕ → ℕ
occurs x [] = 0
occurs x (y ∷ ys) = (if nat_eq y x then 1 else 0) + occurs x ys

-- the sum of f over those that pass
abbrev pub weigh : (ℕ → ℕ) → (ℕ → Bool) → List ℕ → ℕ
weigh f p [] = 0
weigh f p (y ∷ ys) = (if p y then f y else 0) + weigh f p ys

pub weigh_is : (f : ℕ → ℕ) (p : ℕ → Bool) (ys : List ℕ) → sum_by f (filter p ys) ≡ weigh f p ys
weigh_is f p [] = refl
weigh_is f p (y ∷ ys) = here (p y) (weigh_is f p ys)
  where
    here : (b : Bool) → sum_by f (filter p ys) ≡ weigh f p ys → sum_by f (cond b (y ∷ filter p ys) (filter p ys)) ≡ (if b then f y else 0) + weigh f p ys
    here true k = let n : sum_by f (y ∷ filter p ys) ≡ f y + sum_by f (filter p ys) = sum_by-cons f y (filter p ys) in omega arith
    here false k = omega arith

none_left : (x : ℕ) (ys : List ℕ) → occurs x (others x ys) ≡ 0
unfolding occurs
none_left x [] = refl
none_left x (y ∷ ys) = here (nat_eq y x) refl (none_left x ys)
  where
    one_or_none : Bool → ℕ
    one_or_none b = if b then 1 else 0

    here : (b : Bool) → nat_eq y x ≡ b → occurs x (others x ys) ≡ 0 → occurs x (cond (not b) (y ∷ others x ys) (others x ys)) ≡ 0
    here true e k = k
    here false e k = let z : one_or_none (nat_eq y x) ≡ 0 = ap one_or_none e in omega arith

fewer : (x z : ℕ) (ys : List ℕ) → occurs x (others z ys) ≤ occurs x ys
unfolding occurs
fewer x z [] = omega arith
fewer x z (y ∷ ys) = here (nat_eq y z) (fewer x z ys)
  where
    here : (b : Bool) → occurs x (others z ys) ≤ occurs x ys → occurs x (cond (not b) (y ∷ others z ys) (others z ys)) ≤ (if nat_eq y x then 1 else 0) + occurs x ys
    here true k = omega arith
    here false k = omega arith

once : (x : ℕ) (xs : List ℕ) → occurs x (once_each xs) ≤ 1
unfolding occurs
once x [] = omega arith
once x (y ∷ ys) = here (nat_eq y x) refl (once x ys)
  where
    here : (b : Bool) → nat_eq y x ≡ b → occurs x (once_each ys) ≤ 1 → (if b then 1 else 0) + occurs x (others y (once_each ys)) ≤ 1
    here true e k = let z : occurs x (others y (once_each ys)) ≡ 0 = subst (λ w. occurs x (others w (once_each ys)) ≡ 0) (sym (eqb-true y x e)) (none_left x (once_each ys)) in omega arith
    here false e k = let f : occurs x (others y (once_each ys)) ≤ occurs x (once_each ys) = fewer x y (once_each ys) in omega arith

module _ (f : ℕ → ℕ) (p : ℕ → Bool) (x : ℕ) where
  weigh_absent : (ys : List ℕ) → occurs x ys ≡ 0 → weigh f p (others x ys) ≡ weigh f p ys
  unfolding occurs
  weigh_absent [] h = refl
  weigh_absent (y ∷ ys) h = here (nat_eq y x) refl h (weigh_absent ys)
    where
      here : (b : Bool) → nat_eq y x ≡ b → (if b then 1 else 0) + occurs x ys ≡ 0 → (occurs x ys ≡ 0 → weigh f p (others x ys) ≡ weigh f p ys) → weigh f p (cond (not b) (y ∷ others x ys) (others x ys)) ≡ (if p y then f y else 0) + weigh f p ys
      here true e h k = absurd (omega arith)
      here false e h k = let r : weigh f p (others x ys) ≡ weigh f p ys = k (omega arith) in omega arith

  weigh_once : (ys : List ℕ) → occurs x ys ≡ 1 → weigh f p ys ≡ (if p x then f x else 0) + weigh f p (others x ys)
  unfolding occurs
  weigh_once [] h = absurd (omega arith)
  weigh_once (y ∷ ys) h = here (nat_eq y x) refl h (weigh_once ys)
    where
      here : (b : Bool) → nat_eq y x ≡ b → (if b then 1 else 0) + occurs x ys ≡ 1 → (occurs x ys ≡ 1 → weigh f p ys ≡ (if p x then f x else 0) + weigh f p (others x ys)) →
          (if p y then f y else 0) + weigh f p ys ≡ (if p x then f x else 0) + weigh f p (cond (not b) (y ∷ others x ys) (others x ys))
      here true e h k =
          let r : weigh f p (others x ys) ≡ weigh f p ys = weigh_absent ys (omega arith) in
          let s : (if p y then f y else 0) ≡ (if p x then f x else 0) = ap (λ z. if p z then f z else 0) (eqb-true y x e) in
          omega arith
      here false e h k = let r : weigh f p ys ≡ (if p x then f x else 0) + weigh f p (others x ys) = k (omega arith) in omega arith

-- what the entries whose debit account passes take in all
abbrev pub taken_where : Day → (ℕ → Bool) → List Entry → ℕ
taken_where day p [] = 0
taken_where day p (e ∷ es) = (if p (debit_account day e) then e.amount else 0) + taken_where day p es

gross_here : (day : Day) (a : ℕ) (e : Entry) (es : List Entry) → debit_account day e ≡ a → gross_of day a (e ∷ es) ≡ e.amount + gross_of day a es
gross_here day a e es h = rw (eq-eqb (debit_account day e) a h) (sum_by-cons amount_of e (filter (λ e. nat_eq (debit_account day e) a) es))

gross_else : (day : Day) (a : ℕ) (e : Entry) (es : List Entry) → nat_eq (debit_account day e) a ≡ false → gross_of day a (e ∷ es) ≡ gross_of day a es
gross_else day a e es h = rw h refl

-- one more entry changes nothing at the other accounts
weigh_others : (day : Day) (p : ℕ → Bool) (e : Entry) (es : List Entry) (ys : List ℕ) → weigh (λ a. gross_of day a (e ∷ es)) p (others (debit_account day e) ys) ≡ weigh (λ a. gross_of day a es) p (others (debit_account day e) ys)
weigh_others day p e es [] = refl
weigh_others day p e es (y ∷ ys) = here (nat_eq y (debit_account day e)) refl (weigh_others day p e es ys)
  where
    here : (b : Bool) → nat_eq y (debit_account day e) ≡ b → weigh (λ a. gross_of day a (e ∷ es)) p (others (debit_account day e) ys) ≡ weigh (λ a. gross_of day a es) p (others (debit_account day e) ys) →
        weigh (λ a. gross_of day a (e ∷ es)) p (cond (not b) (y ∷ others (debit_account day e) ys) (others (debit_account day e) ys)) ≡ weigh (λ a. gross_of day a es) p (cond (not b) (y ∷ others (debit_account day e) ys) (others (debit_account day e) ys))
    here true q k = k
    here false q k =
        let g : gross_of day y (e ∷ es) ≡ gross_of day y es = gross_else day y e es (ne_eqb (debit_account day e) y (λ r. no (sym q ∙ eq-eqb y (debit_account day e) (sym r)))) in
        let s : (if p y then gross_of day y (e ∷ es) else 0) ≡ (if p y then gross_of day y es else 0) = ap (λ z. if p y then z else 0) g in
        omega arith
      where
        no : false ≡ true → ⊥
        no z = cc

all_others : (x : ℕ) (ys : List ℕ) → occurs x ys ≡ 0 → list_all (λ a. not (nat_eq a x)) ys ≡ true
unfolding occurs
all_others x [] h = refl
all_others x (y ∷ ys) h = here (nat_eq y x) h (all_others x ys)
  where
    here : (b : Bool) → (if b then 1 else 0) + occurs x ys ≡ 0 → (occurs x ys ≡ 0 → list_all (λ a. not (nat_eq a x)) ys ≡ true) → (not b && list_all (λ a. not (nat_eq a x)) ys) ≡ true
    here true h k = absurd (omega arith)
    here false h k = k (omega arith)

-- what holds of x and of each other one holds of each
unfiltered : (test : ℕ → Bool) (x : ℕ) (ys : List ℕ) → test x ≡ true → list_all test (filter (λ b. not (nat_eq b x)) ys) ≡ true → list_all test ys ≡ true
unfiltered test x [] h k = refl
unfiltered test x (y ∷ ys) h k = here (nat_eq y x) refl k (unfiltered test x ys h)
  where
    here : (b : Bool) → nat_eq y x ≡ b → list_all test (cond (not b) (y ∷ filter (λ b. not (nat_eq b x)) ys) (filter (λ b. not (nat_eq b x)) ys)) ≡ true →
        (list_all test (filter (λ b. not (nat_eq b x)) ys) ≡ true → list_all test ys ≡ true) → (test y && list_all test ys) ≡ true
    here true e k rest = and_from (test y) (list_all test ys) (subst (λ z. test z ≡ true) (sym (eqb-true y x e)) h) (rest k)
    here false e k rest = let b = and_parts (test y) (list_all test (filter (λ b. not (nat_eq b x)) ys)) k in and_from (test y) (list_all test ys) b.0 (rest b.1)

-- an account is among the debtors, or nothing is taken from it
once_or_nothing : (day : Day) (test : ℕ → Bool) (a : ℕ) (es : List Entry) → list_all test (once_each (map (debit_account day) es)) ≡ true → (gross_of day a es ≡ 0) ⊎ (test a ≡ true)
once_or_nothing day test a [] h = inl refl
once_or_nothing day test a (e ∷ es) h =
    let b = and_parts (test (debit_account day e)) _ h in
    here (nat_eq (debit_account day e) a) refl b.0 (once_or_nothing day test a es (unfiltered test (debit_account day e) (once_each (map (debit_account day) es)) b.0 b.1))
  where
    here : (q : Bool) → nat_eq (debit_account day e) a ≡ q → test (debit_account day e) ≡ true → (gross_of day a es ≡ 0) ⊎ (test a ≡ true) →
        (sum_by amount_of (cond q (e ∷ filter (λ e. nat_eq (debit_account day e) a) es) (filter (λ e. nat_eq (debit_account day e) a) es)) ≡ 0) ⊎ (test a ≡ true)
    here true q t rest = inr (subst (λ z. test z ≡ true) (eqb-true (debit_account day e) a q) t)
    here false q t rest = rest

nothing_absent : (day : Day) (x : ℕ) (es : List Entry) → occurs x (once_each (map (debit_account day) es)) ≡ 0 → gross_of day x es ≡ 0
nothing_absent day x es h = elim (once_or_nothing day (λ a. not (nat_eq a x)) x es (all_others x (once_each (map (debit_account day) es)) h)) [
  | inl z ↦ z
  | inr t ↦ absurd (no (sym t ∙ ap not (eq-eqb x x refl)))
]
  where
    no : true ≡ false → ⊥
    no z = cc

-- the gross of each account that passes, each account once, is what the entries of those accounts take
pub weigh_gross : (day : Day) (p : ℕ → Bool) (es : List Entry) → weigh (λ a. gross_of day a es) p (once_each (map (debit_account day) es)) ≡ taken_where day p es
weigh_gross day p [] = refl
weigh_gross day p (e ∷ es) = here (in_part (occurs x u) (once x (map (debit_account day) es))) (weigh_gross day p es)
  where
    x : ℕ
    x = debit_account day e

    u : List ℕ
    u = once_each (map (debit_account day) es)

    in_part : (o : ℕ) → o ≤ 1 → (o ≡ 0) ⊎ (o ≡ 1)
    in_part zero h = inl refl
    in_part (suc zero) h = inr refl
    in_part (suc (suc o)) h = absurd (omega arith)

    head : (b : Bool) (s g r t : ℕ) → (if b then s + g else 0) + r ≡ (if b then s else 0) + ((if b then g else 0) + r)
    head true s g r t = omega arith
    head false s g r t = omega arith

    parts : weigh (λ a. gross_of day a es) p u ≡ (if p x then gross_of day x es else 0) + weigh (λ a. gross_of day a es) p (others x u) → weigh (λ a. gross_of day a es) p u ≡ taken_where day p es →
        (if p x then gross_of day x (e ∷ es) else 0) + weigh (λ a. gross_of day a (e ∷ es)) p (others x u) ≡ (if p x then e.amount else 0) + taken_where day p es
    parts s k =
        let g : gross_of day x (e ∷ es) ≡ e.amount + gross_of day x es = gross_here day x e es refl in
        let h : (if p x then gross_of day x (e ∷ es) else 0) ≡ (if p x then e.amount + gross_of day x es else 0) = ap (λ z. if p x then z else 0) g in
        let w : weigh (λ a. gross_of day a (e ∷ es)) p (others x u) ≡ weigh (λ a. gross_of day a es) p (others x u) = weigh_others day p e es u in
        let m : (if p x then e.amount + gross_of day x es else 0) + weigh (λ a. gross_of day a es) p (others x u) ≡ (if p x then e.amount else 0) + ((if p x then gross_of day x es else 0) + weigh (λ a. gross_of day a es) p (others x u)) = head (p x) e.amount (gross_of day x es) (weigh (λ a. gross_of day a es) p (others x u)) 0 in
        omega arith

    here : (occurs x u ≡ 0) ⊎ (occurs x u ≡ 1) → weigh (λ a. gross_of day a es) p u ≡ taken_where day p es →
        (if p x then gross_of day x (e ∷ es) else 0) + weigh (λ a. gross_of day a (e ∷ es)) p (others x u) ≡ (if p x then e.amount else 0) + taken_where day p es
    here (inr o) k = parts (weigh_once (λ a. gross_of day a es) p x u o) k
    here (inl o) k =
        let z : (if p x then gross_of day x es else 0) ≡ 0 = nothing (p x) (gross_of day x es) (nothing_absent day x es o) in
        let w : weigh (λ a. gross_of day a es) p (others x u) ≡ weigh (λ a. gross_of day a es) p u = weigh_absent (λ a. gross_of day a es) p x u o in
        parts (omega arith) k
      where
        nothing : (b : Bool) (g : ℕ) → g ≡ 0 → (if b then g else 0) ≡ 0
        nothing true g h = h
        nothing false g h = refl
