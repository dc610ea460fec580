-- What the entries of one side that pass a test on their numbers come to.
use Rattle.std.proofs.Common.{◌≡◌, ℕ, zero, suc, ◌+◌, ◌≤◌, ◌<◌, ◌∙◌, Bool, true, false, not, ◌&&◌, ◌||◌, List, [], ◌∷◌, Some, refl, sym, ap, subst, arith, cond}
use Rattle.std.specs.Prelude.{nat_eq, if◌then◌else◌, map, filter, sum_by, slice_get}
use Rattle.std.specs.List.{enumerate_from}
use Rattle.std.proofs.lemmas.Bool.{eq-eqb, ne_eqb}
use Rattle.std.proofs.lemmas.List.Sums.{sum_by-cons}
use Rattle.batch_records.specs.declared.day.Entry.{Entry}
use Rattle.machine.specs.Stages.Intake.{amount_of}

-- the entries are numbered from s on
abbrev pub weight : (Entry → Bool) → (ℕ → Bool) → ℕ → List Entry → ℕ
weight pick test s [] = 0
weight pick test s (e ∷ es) = (if pick e && test s then e.amount else 0) + weight pick test (s + 1) es

abbrev pub every : ℕ → Bool
every k = true

pub weight_is : (pick : Entry → Bool) (test : ℕ → Bool) (s : ℕ) (es : List Entry) →
    sum_by amount_of (map (λ (x : ℕ × Entry). x.1) (filter (λ (x : ℕ × Entry). pick x.1 && test x.0) (enumerate_from s es))) ≡ weight pick test s es
weight_is pick test s [] = refl
weight_is pick test s (e ∷ es) = here (pick e && test s) (weight_is pick test (s + 1) es)
  where
    rest : List (ℕ × Entry)
    rest = filter (λ (x : ℕ × Entry). pick x.1 && test x.0) (enumerate_from (s + 1) es)

    here : (b : Bool) → sum_by amount_of (map (λ (x : ℕ × Entry). x.1) rest) ≡ weight pick test (s + 1) es →
        sum_by amount_of (map (λ (x : ℕ × Entry). x.1) (cond b ((s, e) ∷ rest) rest)) ≡ (if b then e.amount else 0) + weight pick test (s + 1) es
    here true k = let n : sum_by amount_of (e ∷ map (λ (x : ℕ × Entry). x.1) rest) ≡ e.amount + sum_by amount_of (map (λ (x : ℕ × Entry). x.1) rest) = sum_by-cons amount_of e (map (λ (x : ℕ × Entry). x.1) rest) in omega arith
    here false k = omega arith

pub weight_every : (pick : Entry → Bool) (s : ℕ) (es : List Entry) → sum_by amount_of (filter pick es) ≡ weight pick every s es
weight_every pick s [] = refl
weight_every pick s (e ∷ es) = here (pick e) (weight_every pick (s + 1) es)
  where
    here : (b : Bool) → sum_by amount_of (filter pick es) ≡ weight pick every (s + 1) es → sum_by amount_of (cond b (e ∷ filter pick es) (filter pick es)) ≡ (if b && true then e.amount else 0) + weight pick every (s + 1) es
    here true k = let n : sum_by amount_of (e ∷ filter pick es) ≡ e.amount + sum_by amount_of (filter pick es) = sum_by-cons amount_of e (filter pick es) in omega arith
    here false k = omega arith

-- more that pass come to no less
pub weight_rises : (pick : Entry → Bool) (test more : ℕ → Bool) (s : ℕ) (es : List Entry) → ((i : ℕ) (e : Entry) → slice_get es i ≡ Some e → pick e ≡ true → test (s + i) ≡ true → more (s + i) ≡ true) → weight pick test s es ≤ weight pick more s es
weight_rises pick test more s [] h = omega arith
weight_rises pick test more s (e ∷ es) h = here (pick e) (test s) (more s) refl refl refl (weight_rises pick test more (s + 1) es (λ i x g p t. subst (λ k. more k ≡ true) (next s i) (h (suc i) x g p (subst (λ k. test k ≡ true) (sym (next s i)) t))))
  where
    next : (s i : ℕ) → s + suc i ≡ (s + 1) + i
    next s i = omega arith

    start : (s : ℕ) → s + 0 ≡ s
    start s = omega arith

    here : (p t m : Bool) → pick e ≡ p → test s ≡ t → more s ≡ m → weight pick test (s + 1) es ≤ weight pick more (s + 1) es →
        (if p && t then e.amount else 0) + weight pick test (s + 1) es ≤ (if p && m then e.amount else 0) + weight pick more (s + 1) es
    here true true true a b c k = omega arith
    here true true false a b c k = absurd (no (sym c ∙ subst (λ k. more k ≡ true) (start s) (h 0 e refl a (subst (λ k. test k ≡ true) (sym (start s)) b))))
      where
        no : false ≡ true → ⊥
        no z = cc
    here true false m a b c k = omega arith
    here false t m a b c k = omega arith

-- those that pass, and those that don't
pub weight_parts : (pick : Entry → Bool) (test : ℕ → Bool) (s : ℕ) (es : List Entry) → weight pick test s es + weight pick (λ k. not (test k)) s es ≡ weight pick every s es
weight_parts pick test s [] = refl
weight_parts pick test s (e ∷ es) = here (pick e) (test s) (weight_parts pick test (s + 1) es)
  where
    here : (p t : Bool) → weight pick test (s + 1) es + weight pick (λ k. not (test k)) (s + 1) es ≡ weight pick every (s + 1) es →
        ((if p && t then e.amount else 0) + weight pick test (s + 1) es) + ((if p && not t then e.amount else 0) + weight pick (λ k. not (test k)) (s + 1) es) ≡ (if p && true then e.amount else 0) + weight pick every (s + 1) es
    here true true k = omega arith
    here true false k = omega arith
    here false t k = omega arith

-- nothing passes
pub weight_nothing : (pick : Entry → Bool) (test : ℕ → Bool) (s : ℕ) (es : List Entry) → ((i : ℕ) (e : Entry) → slice_get es i ≡ Some e → pick e ≡ true → test (s + i) ≡ false) → weight pick test s es ≡ 0
weight_nothing pick test s es h =
    let a : weight pick test s es ≤ weight pick (λ k. false) s es = weight_rises pick test (λ k. false) s es (λ i e g p t. sym (h i e g p) ∙ t) in
    let b : weight pick (λ k. false) s es ≡ 0 = none s es in
    omega arith
  where
    zero_of : (b : Bool) (x : ℕ) → (if b && false then x else 0) ≡ 0
    zero_of true x = refl
    zero_of false x = refl

    none : (s : ℕ) (es : List Entry) → weight pick (λ k. false) s es ≡ 0
    none s [] = refl
    none s (e ∷ es) = let z = zero_of (pick e) e.amount in let k : weight pick (λ k. false) (s + 1) es ≡ 0 = none (s + 1) es in omega arith

-- ---- one more number passes

-- the numbers past k
weight_past : (pick : Entry → Bool) (test : ℕ → Bool) (k s : ℕ) (es : List Entry) → k < s → weight pick (λ j. test j || nat_eq k j) s es ≡ weight pick test s es
weight_past pick test k s es h =
    let a : weight pick (λ j. test j || nat_eq k j) s es ≤ weight pick test s es = weight_rises pick (λ j. test j || nat_eq k j) test s es (λ i e g p t. other (test (s + i)) (nat_eq k (s + i)) (ne_eqb k (s + i) (λ q. omega arith)) t) in
    let b : weight pick test s es ≤ weight pick (λ j. test j || nat_eq k j) s es = weight_rises pick test (λ j. test j || nat_eq k j) s es (λ i e g p t. left (test (s + i)) (nat_eq k (s + i)) t) in
    omega arith
  where
    other : (a b : Bool) → b ≡ false → (a || b) ≡ true → a ≡ true
    other true b h k = refl
    other false true h k = cc
    other false false h k = k

    left : (a b : Bool) → a ≡ true → (a || b) ≡ true
    left true b h = refl
    left false b h = cc

pub weight_one : (pick : Entry → Bool) (test : ℕ → Bool) (k s i : ℕ) (es : List Entry) (x : Entry) → k ≡ s + i → slice_get es i ≡ Some x →
    weight pick (λ j. test j || nat_eq k j) s es ≡ weight pick test s es + (if pick x && not (test k) then x.amount else 0)
weight_one pick test k s i [] x e g = cc
weight_one pick test k s zero (y ∷ es) x e g =
    let r : (if pick x && not (test k) then x.amount else 0) ≡ (if pick y && not (test k) then y.amount else 0) = ap (λ (z : Entry). if pick z && not (test k) then z.amount else 0) (sym (some_entry y x g)) in
    let q : (if pick y && not (test k) then y.amount else 0) ≡ (if pick y && not (test s) then y.amount else 0) = ap (λ j. if pick y && not (test j) then y.amount else 0) same in
    let w : weight pick (λ j. test j || nat_eq k j) (s + 1) es ≡ weight pick test (s + 1) es = weight_past pick test k (s + 1) es (omega arith) in
    let h : (if pick y && (test s || nat_eq k s) then y.amount else 0) ≡ (if pick y && test s then y.amount else 0) + (if pick y && not (test s) then y.amount else 0) = head (pick y) (test s) (nat_eq k s) y.amount (eq-eqb k s same) in
    omega arith
  where
    some_entry : (a b : Entry) → Some a ≡ Some b → a ≡ b
    some_entry a b e = cc

    same : k ≡ s
    same = omega arith

    head : (p t q : Bool) (x : ℕ) → q ≡ true → (if p && (t || q) then x else 0) ≡ (if p && t then x else 0) + (if p && not t then x else 0)
    head true true q x h = omega arith
    head true false true x h = omega arith
    head true false false x h = cc
    head false t q x h = omega arith
weight_one pick test k s (suc i) (y ∷ es) x e g =
    let w : weight pick (λ j. test j || nat_eq k j) (s + 1) es ≡ weight pick test (s + 1) es + (if pick x && not (test k) then x.amount else 0) = weight_one pick test k (s + 1) i es x (omega arith) g in
    let h : (if pick y && (test s || nat_eq k s) then y.amount else 0) ≡ (if pick y && test s then y.amount else 0) = head (pick y) (test s) (nat_eq k s) y.amount (ne_eqb k s (λ q. omega arith)) in
    omega arith
  where
    head : (p t q : Bool) (x : ℕ) → q ≡ false → (if p && (t || q) then x else 0) ≡ (if p && t then x else 0)
    head true true q x h = refl
    head true false true x h = cc
    head true false false x h = refl
    head false t q x h = refl
