-- Flags that fall, and lists of flags over ranges.
use Rattle.std.proofs.Common.{◌≡◌, ◌∙◌, ℕ, zero, suc, ◌+◌, ◌≤◌, ◌<◌, Bool, true, false, not, ◌&&◌, List, [], ◌∷◌, length, refl, sym, ap, subst, arith, map}
use Rattle.std.specs.Prelude.{nat_lt, nat_eq, slice_set, slice_index_or}
use Rattle.std.specs.List.{range_with_len}
use Rattle.std.proofs.lemmas.Bool.{ltb-true, ltb-false, lt-ltb, le-ltb, eqb-true, eqb-false}
use Rattle.batch_records.specs.DayRecord.{Day}
use Rattle.machine.specs.Records.Messages.{entries}
use Rattle.day_facts.specs.Left.{fallen}
use Rattle.day_facts.specs.Told.{is_party_at}
use Rattle.day_facts.proofs.Lists.{map_from}
use Rattle.day_facts.proofs.ToldParts.{no_entry}

pub and_not : (b c : Bool) → c ≡ false → (b && not c) ≡ b
and_not true c h = ap not h
and_not false c h = refl

-- ---- flags that fall

pub fallen_from : (f g : ℕ → Bool) (s : ℕ) (xs : List Bool) → ((j : ℕ) → s ≤ j → f j ≡ g j) → fallen f s xs ≡ fallen g s xs
unfolding fallen
fallen_from f g s [] h = refl
fallen_from f g s (x ∷ xs) h =
    ap (λ b. (x && not b) ∷ fallen f (s + 1) xs) (h s (omega arith)) ∙ ap (λ ys. (x && not (g s)) ∷ ys) (fallen_from f g (s + 1) xs (λ j l. h j (omega arith)))

pub fallen_none : (f : ℕ → Bool) (s : ℕ) (xs : List Bool) → ((j : ℕ) → f j ≡ false) → fallen f s xs ≡ xs
unfolding fallen
fallen_none f s [] h = refl
fallen_none f s (x ∷ xs) h = ap (λ b. b ∷ fallen f (s + 1) xs) (and_not x (f s) (h s)) ∙ ap (λ ys. x ∷ ys) (fallen_none f (s + 1) xs h)

and_false : (b c : Bool) → c ≡ true → (b && not c) ≡ false
and_false true c h = ap not h
and_false false c h = refl

-- one more falls
pub fallen_set : (f g : ℕ → Bool) (s i : ℕ) (xs : List Bool) → g (s + i) ≡ true → ((j : ℕ) → (j ≡ s + i → ⊥) → g j ≡ f j) → fallen g s xs ≡ slice_set (fallen f s xs) i false
unfolding fallen
fallen_set f g s i [] at other = refl
fallen_set f g s zero (x ∷ xs) at other =
    let here : s + 0 ≡ s = omega arith in
    ap (λ b. b ∷ fallen g (s + 1) xs) (and_false x (g s) (subst (λ j. g j ≡ true) here at)) ∙ ap (λ ys. false ∷ ys) (fallen_from g f (s + 1) xs (λ j l. other j (λ e. omega arith)))
fallen_set f g s (suc i) (x ∷ xs) at other =
    let here : s + suc i ≡ (s + 1) + i = omega arith in
    ap (λ b. (x && not b) ∷ fallen g (s + 1) xs) (other s (λ e. omega arith))
    ∙ ap (λ ys. (x && not (f s)) ∷ ys) (fallen_set f g (s + 1) i xs (subst (λ j. g j ≡ true) here at) (λ j ne. other j (λ e. ne (e ∙ here))))

lt_more : (j k : ℕ) → (j ≡ k → ⊥) → nat_lt j (k + 1) ≡ nat_lt j k
lt_more j k ne = here (nat_lt j k) refl
  where
    here : (b : Bool) → nat_lt j k ≡ b → nat_lt j (k + 1) ≡ b
    here true e = let l : j < k = ltb-true j k e in lt-ltb j (k + 1) (omega arith)
    here false e = let l : k ≤ j = ltb-false j k e in le-ltb j (k + 1) (omega (arith, ne))

pub revoke_yes : (party : ℕ → Bool) (first old new : List Bool) (k : ℕ) → old ≡ fallen (λ j. nat_lt j k && party j) 0 first → party k ≡ true → new ≡ slice_set old k false → new ≡ fallen (λ j. nat_lt j (k + 1) && party j) 0 first
revoke_yes party first old new k h p n =
    let now : (nat_lt (0 + k) (k + 1) && party (0 + k)) ≡ true = (let at : 0 + k ≡ k = omega arith in ap (λ b. b && party (0 + k)) (lt-ltb (0 + k) (k + 1) (omega arith)) ∙ ap party at ∙ p) in
    n ∙ ap (λ xs. slice_set xs k false) h ∙ sym (fallen_set (λ j. nat_lt j k && party j) (λ j. nat_lt j (k + 1) && party j) 0 k first now (λ j ne. ap (λ b. b && party j) (lt_more j k (λ e. ne (omega (arith, e))))))

pub revoke_no : (party : ℕ → Bool) (first old new : List Bool) (k : ℕ) → old ≡ fallen (λ j. nat_lt j k && party j) 0 first → party k ≡ false → new ≡ old → new ≡ fallen (λ j. nat_lt j (k + 1) && party j) 0 first
revoke_no party first old new k h p n = n ∙ h ∙ fallen_from _ _ 0 first (λ j l. here j (nat_eq j k) refl)
  where
    both-false : (a b c : Bool) → c ≡ false → (a && c) ≡ (b && c)
    both-false a b true e = cc
    both-false true true false e = refl
    both-false true false false e = refl
    both-false false true false e = refl
    both-false false false false e = refl

    here : (j : ℕ) (b : Bool) → nat_eq j k ≡ b → (nat_lt j k && party j) ≡ (nat_lt j (k + 1) && party j)
    here j true e = both-false (nat_lt j k) (nat_lt j (k + 1)) (party j) (ap party (eqb-true j k e) ∙ p)
    here j false e = ap (λ c. c && party j) (sym (lt_more j k (eqb-false j k e)))

pub revoke_first : (day : Day) (n : ℕ) (bank : List ℕ) (first : List Bool) → first ≡ fallen (λ j. nat_lt j 1 && is_party_at day n bank j) 0 first
revoke_first day n bank first = sym (fallen_none _ 0 first (λ j. here j))
  where
    here : (j : ℕ) → (nat_lt j 1 && is_party_at day n bank j) ≡ false
    here zero = refl
    here (suc i) = ap (λ b. b && is_party_at day n bank (suc i)) (le-ltb (suc i) 1 (omega arith))

pub revoke_all : (day : Day) (n : ℕ) (bank : List ℕ) (first last : List Bool) (k : ℕ) → k ≡ length (entries day n) + 1 → last ≡ fallen (λ j. nat_lt j k && is_party_at day n bank j) 0 first → last ≡ fallen (is_party_at day n bank) 0 first
revoke_all day n bank first last k e h = h ∙ fallen_from _ _ 0 first (λ j l. here j (nat_lt j k) refl)
  where
    here : (j : ℕ) (b : Bool) → nat_lt j k ≡ b → (nat_lt j k && is_party_at day n bank j) ≡ is_party_at day n bank j
    here j true t = ap (λ b. b && is_party_at day n bank j) t
    here j false t = ap (λ b. b && is_party_at day n bank j) t ∙ sym (no_entry day n bank j (let l : k ≤ j = ltb-false j k t in omega arith))

-- ---- over a range

-- one flag of a list falls
pub set_map : (f g : ℕ → Bool) (s i len : ℕ) → g (s + i) ≡ false → ((j : ℕ) → (j ≡ s + i → ⊥) → g j ≡ f j) → slice_set (map f (range_with_len s len)) i false ≡ map g (range_with_len s len)
set_map f g s i zero at other = refl
set_map f g s zero (suc len) at other =
    let here : s + 0 ≡ s = omega arith in
    ap (λ b. b ∷ map f (range_with_len (s + 1) len)) (sym (subst (λ j. g j ≡ false) here at)) ∙ ap (λ xs. g s ∷ xs) (map_from f g (s + 1) len (λ j l. sym (other j (λ e. omega arith))))
set_map f g s (suc i) (suc len) at other =
    let here : s + suc i ≡ (s + 1) + i = omega arith in
    ap (λ b. b ∷ slice_set (map f (range_with_len (s + 1) len)) i false) (sym (other s (λ e. omega arith)))
    ∙ ap (λ xs. g s ∷ xs) (set_map f g (s + 1) i len (subst (λ j. g j ≡ false) here at) (λ j ne. other j (λ e. ne (e ∙ here))))

-- flags that fall where a test passes
pub fallen_map : (test f : ℕ → Bool) (s len : ℕ) → fallen test s (map f (range_with_len s len)) ≡ map (λ k. f k && not (test k)) (range_with_len s len)
unfolding fallen
fallen_map test f s zero = refl
fallen_map test f s (suc len) = ap (λ xs. (f s && not (test s)) ∷ xs) (fallen_map test f (s + 1) len)

-- the flag of an item, which falls past the end
pub row_flag : (f : ℕ → Bool) (s len k j : ℕ) → j ≡ s + k → (len ≤ k → f j ≡ false) → slice_index_or (map f (range_with_len s len)) k false ≡ f j
row_flag f s zero k j e past = sym (past (omega arith))
row_flag f s (suc len) zero j e past = let here : s ≡ j = omega (arith, e) in ap f here
row_flag f s (suc len) (suc k) j e past = row_flag f (s + 1) len k j (omega (arith, e)) (λ l. past (omega (arith, l)))
