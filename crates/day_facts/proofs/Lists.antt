-- Lists that are made over ranges and change at one item.
use Rattle.std.proofs.Common.{◌≡◌, ◌∙◌, ℕ, zero, suc, ◌+◌, ◌-◌, ◌≤◌, ◌<◌, List, [], ◌∷◌, ◌++◌, length, get_or, refl, sym, ap, subst, arith, add-one, map}
use Rattle.std.specs.Prelude.{slice_set}
use Rattle.std.specs.List.{range_with_len}
use Rattle.std.proofs.lemmas.List.FromFn.{map-range_with_len_more}
use Rattle.day_facts.specs.Lists.{change_at, changed}

-- ---- one more at the end

pub row_more : {X : Type 0} (f : ℕ → X) (s : ℕ) (old new : List X) (k i : ℕ) (x : X) → i ≡ s + k → old ≡ map f (range_with_len s k) → x ≡ f i → new ≡ old ++ x ∷ [] → new ≡ map f (range_with_len s (k + 1))
row_more f s old new k i x at h e n =
    n ∙ ap (λ xs. xs ++ x ∷ []) h ∙ ap (λ y. map f (range_with_len s k) ++ y ∷ []) e ∙ sym (map-range_with_len_more f s k i (sym at))

pub row_all : {X : Type 0} (f : ℕ → X) (xs : List X) (k len : ℕ) → k ≡ len + 1 → xs ≡ map f (range_with_len 0 k) → xs ≡ map f (range_with_len 0 (suc len))
row_all f xs k len e h = h ∙ ap (λ n. map f (range_with_len 0 n)) (e ∙ add-one len)

-- ---- one item changes

pub change_set : {X : Type 0} (i : ℕ) (f : X → X) (xs : List X) (d y : X) → i < length xs → y ≡ f (get_or xs i d) → slice_set xs i y ≡ change_at i f xs
change_set i f [] d y l e = absurd (omega arith)
change_set zero f (x ∷ xs) d y l e = ap (λ z. z ∷ xs) e
change_set (suc i) f (x ∷ xs) d y l e = ap (λ ys. x ∷ ys) (change_set i f xs d y (omega arith) e)

pub change_length : {X : Type 0} (i : ℕ) (f : X → X) (xs : List X) → length (change_at i f xs) ≡ length xs
change_length i f [] = refl
change_length zero f (x ∷ xs) = refl
change_length (suc i) f (x ∷ xs) = ap suc (change_length i f xs)

pub change_past : {X : Type 0} (i : ℕ) (f : X → X) (xs : List X) → length xs ≤ i → change_at i f xs ≡ xs
change_past i f [] l = refl
change_past zero f (x ∷ xs) l = absurd (omega arith)
change_past (suc i) f (x ∷ xs) l = ap (λ ys. x ∷ ys) (change_past i f xs (omega arith))

pub changed_set : {X : Type 0} (n : ℕ) (f : X → X) (xs : List X) (d y : X) → (n ≡ 0 → ⊥) → n ≤ length xs → y ≡ f (get_or xs (n - 1) d) → slice_set xs (n - 1) y ≡ changed n f xs
changed_set zero f xs d y ne l e = absurd (ne refl)
changed_set (suc i) f xs d y ne l e =
    let at : suc i - 1 ≡ i = omega arith in
    ap (λ j. slice_set xs j y) at ∙ change_set i f xs d y (omega arith) (e ∙ ap (λ j. f (get_or xs j d)) at)

pub changed_none : {X : Type 0} (n : ℕ) (f : X → X) (xs : List X) → n ≡ 0 → xs ≡ changed n f xs
changed_none n f xs e = sym (ap (λ m. changed m f xs) e)

pub changed_past : {X : Type 0} (n : ℕ) (f : X → X) (xs : List X) → length xs < n → xs ≡ changed n f xs
changed_past zero f xs l = refl
changed_past (suc i) f xs l = sym (change_past i f xs (omega arith))

-- ---- over a range

pub map_from : {X : Type 0} (f g : ℕ → X) (s len : ℕ) → ((j : ℕ) → s ≤ j → f j ≡ g j) → map f (range_with_len s len) ≡ map g (range_with_len s len)
map_from f g s zero h = refl
map_from f g s (suc len) h = ap (λ x. x ∷ map f (range_with_len (s + 1) len)) (h s (omega arith)) ∙ ap (λ xs. g s ∷ xs) (map_from f g (s + 1) len (λ j l. h j (omega arith)))

pub change_map : {X : Type 0} (change : X → X) (g h : ℕ → X) (s i len : ℕ) → change (g (s + i)) ≡ h (s + i) → ((j : ℕ) → (j ≡ s + i → ⊥) → g j ≡ h j) → change_at i change (map g (range_with_len s len)) ≡ map h (range_with_len s len)
change_map change g h s i zero at other = refl
change_map change g h s zero (suc len) at other =
    let here : s + 0 ≡ s = omega arith in
    ap (λ x. x ∷ map g (range_with_len (s + 1) len)) (subst (λ j. change (g j) ≡ h j) here at) ∙ ap (λ xs. h s ∷ xs) (map_from g h (s + 1) len (λ j l. other j (λ e. omega arith)))
change_map change g h s (suc i) (suc len) at other =
    let here : s + suc i ≡ (s + 1) + i = omega arith in
    ap (λ x. x ∷ change_at i change (map g (range_with_len (s + 1) len))) (other s (λ e. omega arith))
    ∙ ap (λ xs. h s ∷ xs) (change_map change g h (s + 1) i len (subst (λ j. change (g j) ≡ h j) here at) (λ j ne. other j (λ e. ne (e ∙ here))))

pub changed_map : {X : Type 0} (change : X → X) (g h : ℕ → X) (n len : ℕ) → change (g n) ≡ h n → ((j : ℕ) → (j ≡ n → ⊥) → g j ≡ h j) → changed n change (map g (range_with_len 1 len)) ≡ map h (range_with_len 1 len)
changed_map change g h zero len at other = map_from g h 1 len (λ j l. other j (λ e. omega arith))
changed_map change g h (suc i) len at other =
    let here : suc i ≡ 1 + i = omega arith in
    change_map change g h 1 i len (subst (λ j. change (g j) ≡ h j) here at) (λ j ne. other j (λ e. ne (e ∙ here)))
