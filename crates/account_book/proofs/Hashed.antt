-- What the first item of a hash tells of the first item of a name.
use Rattle.std.proofs.Common.{◌≡◌, ℕ, zero, suc, ◌+◌, Bool, true, false, cond, ◌&&◌, List, [], ◌∷◌, slice_get, None, Some, refl, ap, ◌∙◌, arith}
use Rattle.std.specs.List.{position_from}
use Rattle.std.proofs.lemmas.Bool.{eq-eqb}
use Rattle.cash_amounts.specs.Numbers.{numbered}
use Rattle.cash_amounts.specs.Tests.{same_name}
use Rattle.account_book.specs.Filed.{hash_of, has_hash}
use Rattle.account_book.specs.declared.setup_hasher.SetupHasher.{SetupHasher}
use Rattle.account_book.proofs.SoundLemmas.{same_names}

-- a test that passes what is the same, and maybe more
module _ {X : Type 0} (alike same : X → Bool) (passes : (x : X) → same x ≡ true → alike x ≡ true) where
  -- where it passes nothing, nothing is the same
  pub none_same : (i : ℕ) (xs : List X) → position_from alike i xs ≡ None → None ≡ position_from same i xs
  none_same i [] e = refl
  none_same i (x ∷ xs) e = by (alike x) (same x) refl refl e (none_same (i + 1) xs)
    where
      by : (a b : Bool) → alike x ≡ a → same x ≡ b → cond a (Some i) (position_from alike (i + 1) xs) ≡ None → (position_from alike (i + 1) xs ≡ None → None ≡ position_from same (i + 1) xs)
          → None ≡ cond b (Some i) (position_from same (i + 1) xs)
      by true b p q e later = cc e
      by false true p q e later = let clash = passes x q in cc
      by false false p q e later = later e

  first_from : (i k : ℕ) (xs : List X) (x : X) → position_from alike i xs ≡ Some (i + k) → slice_get xs k ≡ Some x → same x ≡ true → Some (i + k) ≡ position_from same i xs
  first_from i k [] x e there is = cc e
  first_from i zero (y ∷ ys) x e there is =
      let own : same y ≡ true = cc in
      let at : i + 0 ≡ i = omega arith in
      rw own (ap Some at)
  first_from i (suc k) (y ∷ ys) x e there is = by (alike y) (same y) refl refl e (λ later. first_from (i + 1) k ys x later there is)
    where
      by : (a b : Bool) → alike y ≡ a → same y ≡ b → cond a (Some i) (position_from alike (i + 1) ys) ≡ Some (i + suc k)
          → (position_from alike (i + 1) ys ≡ Some (i + 1 + k) → Some (i + 1 + k) ≡ position_from same (i + 1) ys) → Some (i + suc k) ≡ cond b (Some i) (position_from same (i + 1) ys)
      by true b p q e later = let clash : i ≡ i + suc k = cc in absurd (omega arith)
      by false true p q e later = let clash = passes y q in cc
      by false false p q e later =
          let at : i + suc k ≡ i + 1 + k = omega arith in
          ap Some at ∙ later (e ∙ ap Some at)

  -- where the first that it passes is the same, that is the first that is
  pub first_same : (xs : List X) (n : ℕ) (x : X) → position_from alike 1 xs ≡ Some n → numbered xs n ≡ Some x → same x ≡ true → Some n ≡ position_from same 1 xs
  first_same xs zero x e there is = cc there
  first_same xs (suc k) x e there is =
      let at : suc k ≡ 1 + k = omega arith in
      ap Some at ∙ first_from 1 k xs x (e ∙ ap Some at) there is

-- a name is of its hash
pub own_hash : (hasher : SetupHasher) (own name : List ℕ) → same_name own name ≡ true → has_hash hasher (hash_of hasher name) own ≡ true
own_hash hasher own name same = eq-eqb (hash_of hasher own) (hash_of hasher name) (ap (hash_of hasher) (same_names own name same))

pub and_more : (a b c : Bool) → (b ≡ true → c ≡ true) → (a && b) ≡ true → (a && c) ≡ true
and_more true b c more e = more e
and_more false b c more e = cc e
