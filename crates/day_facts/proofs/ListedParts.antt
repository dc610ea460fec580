-- Entries that the first keys of a list name.
use Rattle.std.proofs.Common.{◌≡◌, ◌∙◌, ℕ, ◌+◌, ◌<◌, Bool, true, false, ◌&&◌, ◌||◌, List, take, get_or, length, refl, sym, ap, arith}
use Rattle.std.specs.Prelude.{nat_eq}
use Rattle.std.proofs.lemmas.Bool.{eq-eqb, eqb-true, ne_eqb, or_right}
use Rattle.std.proofs.lemmas.List.{take_all}
use Rattle.std.proofs.lemmas.List.Folds.{list_any_more}
use Rattle.rule_book.specs.Parties.{entry_of, names_entry}

-- the first i keys name entry j, and it passes
abbrev pub is_done : List ℕ → (ℕ → Bool) → ℕ → ℕ → Bool
is_done keys test i j = names_entry (take i keys) j && test j

module _ (keys : List ℕ) (test : ℕ → Bool) (i d k : ℕ) (within : i < length keys) (is : k ≡ entry_of (get_or keys i d)) where
  names_more : (j : ℕ) → names_entry (take (i + 1) keys) j ≡ (names_entry (take i keys) j || nat_eq k j)
  names_more j = list_any_more (λ x. nat_eq (entry_of x) j) keys i d within ∙ ap (λ e. names_entry (take i keys) j || nat_eq e j) (sym is)

  or_false : (b : Bool) → (b || false) ≡ b
  or_false true = refl
  or_false false = refl

  names_other : (j : ℕ) → nat_eq k j ≡ false → names_entry (take (i + 1) keys) j ≡ names_entry (take i keys) j
  names_other j ne = names_more j ∙ ap (λ b. names_entry (take i keys) j || b) ne ∙ or_false (names_entry (take i keys) j)

  pub done_here : test k ≡ true → is_done keys test (i + 1) (0 + k) ≡ true
  done_here t =
      let at : 0 + k ≡ k = omega arith in
      ap (is_done keys test (i + 1)) at ∙ ap (λ b. b && test k) (names_more k ∙ or_right (names_entry (take i keys) k) (nat_eq k k) (eq-eqb k k refl)) ∙ t

  pub done_other : (j : ℕ) → (j ≡ 0 + k → ⊥) → is_done keys test (i + 1) j ≡ is_done keys test i j
  done_other j ne = ap (λ b. b && test j) (names_other j (ne_eqb k j (λ e. ne (omega (arith, e)))))

  pub done_skip : test k ≡ false → (j : ℕ) → is_done keys test i j ≡ is_done keys test (i + 1) j
  done_skip fails j = by (nat_eq k j) refl
    where
      both_false : (a b c : Bool) → c ≡ false → (a && c) ≡ (b && c)
      both_false a b true e = cc
      both_false true true false e = refl
      both_false true false false e = refl
      both_false false true false e = refl
      both_false false false false e = refl

      by : (b : Bool) → nat_eq k j ≡ b → is_done keys test i j ≡ is_done keys test (i + 1) j
      by true e = both_false (names_entry (take i keys) j) (names_entry (take (i + 1) keys) j) (test j) (ap test (sym (eqb-true k j e)) ∙ fails)
      by false e = ap (λ b. b && test j) (sym (names_other j e))

pub done_all : (keys : List ℕ) (test : ℕ → Bool) (i : ℕ) → i ≡ length keys → ((k : ℕ) → test k ≡ true → names_entry keys k ≡ true) → (j : ℕ) → is_done keys test i j ≡ test j
done_all keys test i all has j = ap (λ xs. names_entry xs j && test j) (take_all i keys (omega (arith, all))) ∙ by (test j) refl
  where
    and_true : (b : Bool) → (b && true) ≡ b
    and_true true = refl
    and_true false = refl

    and_false : (b : Bool) → (b && false) ≡ false
    and_false true = refl
    and_false false = refl

    by : (b : Bool) → test j ≡ b → (names_entry keys j && test j) ≡ test j
    by true e = ap (λ b. b && test j) (has j e)
    by false e = ap (λ b. names_entry keys j && b) e ∙ and_false (names_entry keys j) ∙ sym e
