-- What the moves of entries bring to an account and take from it.
use Rattle.std.proofs.Common.{◌≡◌, ℕ, ◌+◌, Bool, true, false, ◌&&◌, List, [], ◌∷◌, refl, ◌∙◌, arith, cond}
use Rattle.std.specs.Prelude.{nat_eq, if◌then◌else◌, map, filter}
use Rattle.std.specs.List.{enumerate_from}
use Rattle.batch_records.specs.declared.day.Entry.{Entry}
use Rattle.commit_journal.specs.declared.line.Move.{Move}
use Rattle.machine.specs.Telling.Balances.{credits, debits}
use Rattle.settlement_laws.proofs.Base.Weights.{weight}

-- ---- moves of entries by account

module _ (a : ℕ) (f : Entry → Move) (same : (e : Entry) → (f e).amount ≡ e.amount) (pick : Entry → Bool) (test : ℕ → Bool) where
  one : (p t d : Bool) (x y r w : ℕ) → x ≡ y → r ≡ w → (if p && t then (if d then x else 0) + r else r) ≡ (if (p && d) && t then y else 0) + w
  one true true true x y r w h k = omega arith
  one true true false x y r w h k = omega arith
  one true false true x y r w h k = omega arith
  one true false false x y r w h k = omega arith
  one false t d x y r w h k = omega arith

  pub debits_weight : (s : ℕ) (es : List Entry) → debits a (map f (map (λ (x : ℕ × Entry). x.1) (filter (λ (x : ℕ × Entry). pick x.1 && test x.0) (enumerate_from s es)))) ≡ weight (λ e. pick e && nat_eq (f e).debit a) test s es
  debits_weight s [] = refl
  debits_weight s (e ∷ es) = here (pick e && test s) ∙ one (pick e) (test s) (nat_eq (f e).debit a) (f e).amount e.amount (debits a (map f (map (λ (x : ℕ × Entry). x.1) rest))) (weight (λ e. pick e && nat_eq (f e).debit a) test (s + 1) es) (same e) (debits_weight (s + 1) es)
    where
      rest : List (ℕ × Entry)
      rest = filter (λ (x : ℕ × Entry). pick x.1 && test x.0) (enumerate_from (s + 1) es)

      here : (b : Bool) → debits a (map f (map (λ (x : ℕ × Entry). x.1) (cond b ((s, e) ∷ rest) rest))) ≡ (if b then (if nat_eq (f e).debit a then (f e).amount else 0) + debits a (map f (map (λ (x : ℕ × Entry). x.1) rest)) else debits a (map f (map (λ (x : ℕ × Entry). x.1) rest)))
      here true = refl
      here false = refl

  pub credits_weight : (s : ℕ) (es : List Entry) → credits a (map f (map (λ (x : ℕ × Entry). x.1) (filter (λ (x : ℕ × Entry). pick x.1 && test x.0) (enumerate_from s es)))) ≡ weight (λ e. pick e && nat_eq (f e).credit a) test s es
  credits_weight s [] = refl
  credits_weight s (e ∷ es) = here (pick e && test s) ∙ one (pick e) (test s) (nat_eq (f e).credit a) (f e).amount e.amount (credits a (map f (map (λ (x : ℕ × Entry). x.1) rest))) (weight (λ e. pick e && nat_eq (f e).credit a) test (s + 1) es) (same e) (credits_weight (s + 1) es)
    where
      rest : List (ℕ × Entry)
      rest = filter (λ (x : ℕ × Entry). pick x.1 && test x.0) (enumerate_from (s + 1) es)

      here : (b : Bool) → credits a (map f (map (λ (x : ℕ × Entry). x.1) (cond b ((s, e) ∷ rest) rest))) ≡ (if b then (if nat_eq (f e).credit a then (f e).amount else 0) + credits a (map f (map (λ (x : ℕ × Entry). x.1) rest)) else credits a (map f (map (λ (x : ℕ × Entry). x.1) rest)))
      here true = refl
      here false = refl
