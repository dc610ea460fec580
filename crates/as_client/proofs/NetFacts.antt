-- Nets sum to zero: each payment counts once for its payer and once for its payee.
use Rattle.std.proofs.Common.{◌≡◌, ℕ, ◌+◌, Bool, true, false, not, cond, ◌||◌, List, [], ◌∷◌, map, filter, pos, ◌-ℤ◌, refl, ap, ◌∙◌, sym, subst, arith, if◌then◌else◌}
use Rattle.std.specs.Prelude.{sum_by}
use Rattle.std.specs.List.{list_any}
use Rattle.std.proofs.lemmas.Bool.{or_left, or_right}
use Rattle.std.proofs.lemmas.Int.{ints}
use Rattle.std.proofs.lemmas.List.Sums.{sum_by-cons}
use Rattle.cash_amounts.specs.Tests.{same_name}
use Rattle.account_book.proofs.SoundLemmas.{same_names, own_name}
use Rattle.as_client.specs.declared.trade.Trade.{Trade}
use Rattle.as_client.specs.Netting.{accounts_of, amount_of_trade, each_once, is_open, mentions, net, paid, paid_of, position_of, received, received_of}
use Rattle.as_client.specs.NettingLaws.{NetsSumToZero}
use Rattle.as_client.proofs.NameFacts.{without}
use Rattle.as_client.proofs.SumFacts.{sum_is_total, total, total-open}

-- ---- sums over names

abbrev all_by : (List ℕ → ℕ) → List (List ℕ) → ℕ
all_by f [] = 0
all_by f (k ∷ ks) = f k + all_by f ks

all_by-none : (ks : List (List ℕ)) → all_by (λ k. 0) ks ≡ 0
all_by-none [] = refl
all_by-none (k ∷ ks) = let rest = all_by-none ks in omega arith

all_by-both : (f g h : List ℕ → ℕ) → ((k : List ℕ) → h k ≡ f k + g k) → (ks : List (List ℕ)) → all_by h ks ≡ all_by f ks + all_by g ks
all_by-both f g h each [] = refl
all_by-both f g h each (k ∷ ks) = let rest = all_by-both f g h each ks in let own = each k in omega arith

-- an amount for each place of the name
abbrev here : List ℕ → ℕ → List (List ℕ) → ℕ
here n m ks = all_by (λ k. if same_name n k then m else 0) ks

other_way : (a b : List ℕ) → same_name a b ≡ false → same_name b a ≡ false
other_way a b e = by (same_name b a) refl
  where
    by : (c : Bool) → same_name b a ≡ c → c ≡ false
    by false h = refl
    by true h = let same : same_name a b ≡ true = ap (λ n. same_name n b) (sym (same_names b a h)) ∙ own_name b in cc

here-without_own : (n : List ℕ) (m : ℕ) (ks : List (List ℕ)) → here n m (without n ks) ≡ 0
here-without_own n m [] = refl
here-without_own n m (k ∷ ks) = by (same_name k n) refl (here-without_own n m ks)
  where
    by : (b : Bool) → same_name k n ≡ b → here n m (without n ks) ≡ 0 → here n m (cond (not b) (k ∷ without n ks) (without n ks)) ≡ 0
    by true e h = h
    by false e h = let own : (if same_name n k then m else 0) ≡ 0 = ap (λ c. if c then m else 0) (other_way k n e) in omega (arith, own, h)

here-without : (n x : List ℕ) (m : ℕ) → same_name n x ≡ false → (ks : List (List ℕ)) → here n m (without x ks) ≡ here n m ks
here-without n x m apart [] = refl
here-without n x m apart (k ∷ ks) = by (same_name k x) refl (here-without n x m apart ks)
  where
    by : (b : Bool) → same_name k x ≡ b → here n m (without x ks) ≡ here n m ks → here n m (cond (not b) (k ∷ without x ks) (without x ks)) ≡ here n m (k ∷ ks)
    by true e h = let own : (if same_name n k then m else 0) ≡ 0 = ap (λ c. if c then m else 0) (ap (same_name n) (same_names k x e) ∙ apart) in omega (arith, own, h)
    by false e h = ap (λ s. (if same_name n k then m else 0) + s) h

here-each_once : (n : List ℕ) (m : ℕ) (names : List (List ℕ)) → here n m (each_once names) ≡ (if list_any (same_name n) names then m else 0)
here-each_once n m [] = refl
here-each_once n m (x ∷ names) = by (same_name n x) refl (here-each_once n m names)
  where
    by : (b : Bool) → same_name n x ≡ b → here n m (each_once names) ≡ (if list_any (same_name n) names then m else 0)
        → (if b then m else 0) + here n m (without x (each_once names)) ≡ (if b || list_any (same_name n) names then m else 0)
    by true e h =
        let gone : here n m (without x (each_once names)) ≡ 0 = subst (λ y. here n m (without y (each_once names)) ≡ 0) (same_names n x e) (here-without_own n m (each_once names)) in
        omega arith
    by false e h = let kept = here-without n x m e (each_once names) ∙ h in omega (arith, kept)

-- ---- each trade's accounts stand there once

abbrev Counts : List (List ℕ) → List Trade → Type 0
Counts ks [] = Unit {0}
Counts ks (t ∷ ts) = (here t.payer t.amount ks ≡ t.amount) × (here t.payee t.amount ks ≡ t.amount) × Counts ks ts

counts : (names : List (List ℕ)) (ts : List Trade) → ((n : List ℕ) → list_any (same_name n) (mentions ts) ≡ true → list_any (same_name n) names ≡ true) → Counts (each_once names) ts
counts names [] named = tt
counts names (t ∷ ts) named =
    let payer : list_any (same_name t.payer) names ≡ true = named t.payer (or_left (same_name t.payer t.payer) _ (own_name t.payer)) in
    let payee : list_any (same_name t.payee) names ≡ true = named t.payee (or_right (same_name t.payee t.payer) _ (or_left (same_name t.payee t.payee) _ (own_name t.payee))) in (
      here-each_once t.payer t.amount names ∙ ap (λ b. if b then t.amount else 0) payer,
      here-each_once t.payee t.amount names ∙ ap (λ b. if b then t.amount else 0) payee,
      counts names ts (λ n e. named n (or_right (same_name n t.payer) _ (or_right (same_name n t.payee) _ e))),
    )

received_all : (ks : List (List ℕ)) (ts : List Trade) → Counts ks ts → all_by (λ k. received k ts) ks ≡ sum_by amount_of_trade ts
received_all ks [] counts = all_by-none ks
received_all ks (t ∷ ts) counts =
    let more = all_by-both (λ k. received_of k t) (λ k. received k ts) (λ k. received k (t ∷ ts)) (λ k. sum_by-cons (received_of k) t ts) ks in
    let rest = received_all ks ts counts.2 in
    let whole = sum_by-cons amount_of_trade t ts in
    more ∙ omega (arith, counts.1, rest, whole)

paid_all : (ks : List (List ℕ)) (ts : List Trade) → Counts ks ts → all_by (λ k. paid k ts) ks ≡ sum_by amount_of_trade ts
paid_all ks [] counts = all_by-none ks
paid_all ks (t ∷ ts) counts =
    let more = all_by-both (λ k. paid_of k t) (λ k. paid k ts) (λ k. paid k (t ∷ ts)) (λ k. sum_by-cons (paid_of k) t ts) ks in
    let rest = paid_all ks ts counts.2 in
    let whole = sum_by-cons amount_of_trade t ts in
    more ∙ omega (arith, counts.0, rest, whole)

total-positions : (ts : List Trade) (ks : List (List ℕ)) → total (map (position_of ts) ks) ≡ pos (all_by (λ k. received k ts) ks) -ℤ pos (all_by (λ k. paid k ts) ks)
total-positions ts [] = omega (arith, ints)
total-positions ts (k ∷ ks) = let rest = total-positions ts ks in omega (arith, ints, rest)

same_sides : (m n s : ℕ) → m ≡ s → n ≡ s → pos m -ℤ pos n ≡ pos 0
same_sides m n s e f = omega (arith, ints)

pub nets_sum_to_zero : NetsSumToZero
unfolding net
nets_sum_to_zero ts =
    let ks = accounts_of ts in
    let once = counts (mentions ts) ts (λ n e. e) in
    sum_is_total (filter is_open (map (position_of ts) ks)) ∙ total-open (map (position_of ts) ks) ∙ total-positions ts ks
    ∙ same_sides (all_by (λ k. received k ts) ks) (all_by (λ k. paid k ts) ks) (sum_by amount_of_trade ts) (received_all ks ts once) (paid_all ks ts once)
