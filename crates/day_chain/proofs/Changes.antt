-- One item of a list changes.
use Rattle.std.proofs.Common.{◌≡◌, ◌∙◌, ℕ, zero, suc, ◌+◌, ◌-◌, ◌<◌, ◌≤◌, List, [], ◌∷◌, length, map, get_or, refl, sym, ap, subst, arith}
use Rattle.std.specs.Prelude.{slice_set}
use Rattle.std.specs.List.{range_with_len}
use Rattle.cash_amounts.specs.declared.cents.TheConstants.{MAX_CENTS}
use Rattle.day_chain.specs.declared.sums.Sums.{Sums}
use Rattle.day_chain.specs.Summing.{change_at, changed, HasRoom, HaveRoom, more_credits, more_debits, more_aside}

change-set : {X : Type 0} (i : ℕ) (f : X → X) (xs : List X) (d y : X) → i < length xs → y ≡ f (get_or xs i d) → slice_set xs i y ≡ change_at i f xs
change-set i f [] d y l e = absurd (omega arith)
change-set zero f (x ∷ xs) d y l e = ap (λ z. z ∷ xs) e
change-set (suc i) f (x ∷ xs) d y l e = ap (λ ys. x ∷ ys) (change-set i f xs d y (omega arith) e)

change-past : {X : Type 0} (i : ℕ) (f : X → X) (xs : List X) → length xs ≤ i → change_at i f xs ≡ xs
change-past i f [] l = refl
change-past zero f (x ∷ xs) l = absurd (omega arith)
change-past (suc i) f (x ∷ xs) l = ap (λ ys. x ∷ ys) (change-past i f xs (omega arith))

pub changed-set : {X : Type 0} (n : ℕ) (f : X → X) (xs : List X) (d y : X) → (n ≡ 0 → ⊥) → n ≤ length xs → y ≡ f (get_or xs (n - 1) d) → slice_set xs (n - 1) y ≡ changed n f xs
changed-set zero f xs d y ne l e = absurd (ne refl)
changed-set (suc i) f xs d y ne l e =
    let at : suc i - 1 ≡ i = omega arith in
    ap (λ j. slice_set xs j y) at ∙ change-set i f xs d y (omega arith) (e ∙ ap (λ j. f (get_or xs j d)) at)

pub changed-none : {X : Type 0} (n : ℕ) (f : X → X) (xs : List X) → n ≡ 0 → xs ≡ changed n f xs
changed-none n f xs e = sym (ap (λ m. changed m f xs) e)

pub changed-past : {X : Type 0} (n : ℕ) (f : X → X) (xs : List X) → length xs < n → xs ≡ changed n f xs
changed-past zero f xs l = refl
changed-past (suc i) f xs l = sym (change-past i f xs (omega arith))

pub change-length : {X : Type 0} (i : ℕ) (f : X → X) (xs : List X) → length (change_at i f xs) ≡ length xs
change-length i f [] = refl
change-length zero f (x ∷ xs) = refl
change-length (suc i) f (x ∷ xs) = ap suc (change-length i f xs)

-- ---- lists over ranges

pub map-from : {X : Type 0} (f g : ℕ → X) (s len : ℕ) → ((j : ℕ) → s ≤ j → j < s + len → f j ≡ g j) → map f (range_with_len s len) ≡ map g (range_with_len s len)
map-from f g s zero h = refl
map-from f g s (suc len) h = ap (λ x. x ∷ map f (range_with_len (s + 1) len)) (h s (omega arith) (omega arith)) ∙ ap (λ xs. g s ∷ xs) (map-from f g (s + 1) len (λ j l m. h j (omega arith) (omega arith)))

change-map : {X : Type 0} (change : X → X) (g h : ℕ → X) (s i len : ℕ) → change (g (s + i)) ≡ h (s + i) → ((j : ℕ) → (j ≡ s + i → ⊥) → g j ≡ h j) → change_at i change (map g (range_with_len s len)) ≡ map h (range_with_len s len)
change-map change g h s i zero at other = refl
change-map change g h s zero (suc len) at other =
    let here : s + 0 ≡ s = omega arith in
    ap (λ x. x ∷ map g (range_with_len (s + 1) len)) (subst (λ j. change (g j) ≡ h j) here at) ∙ ap (λ xs. h s ∷ xs) (map-from g h (s + 1) len (λ j l m. other j (λ e. omega arith)))
change-map change g h s (suc i) (suc len) at other =
    let here : s + suc i ≡ (s + 1) + i = omega arith in
    ap (λ x. x ∷ change_at i change (map g (range_with_len (s + 1) len))) (other s (λ e. omega arith))
    ∙ ap (λ xs. h s ∷ xs) (change-map change g h (s + 1) i len (subst (λ j. change (g j) ≡ h j) here at) (λ j ne. other j (λ e. ne (e ∙ here))))

pub changed-map : {X : Type 0} (change : X → X) (g h : ℕ → X) (n len : ℕ) → change (g n) ≡ h n → ((j : ℕ) → (j ≡ n → ⊥) → g j ≡ h j) → changed n change (map g (range_with_len 1 len)) ≡ map h (range_with_len 1 len)
changed-map change g h zero len at other = map-from g h 1 len (λ j l m. other j (λ e. omega arith))
changed-map change g h (suc i) len at other =
    let here : suc i ≡ 1 + i = omega arith in
    change-map change g h 1 i len (subst (λ j. change (g j) ≡ h j) here at) (λ j ne. other j (λ e. ne (e ∙ here)))

-- ---- room

pub room_at : (n i : ℕ) (xs : List Sums) (d : Sums) → HaveRoom n xs → i < length xs → HasRoom n (get_or xs i d)
room_at n i [] d h l = absurd (omega arith)
room_at n zero (x ∷ xs) d h l = h.0
room_at n (suc i) (x ∷ xs) d h l = room_at n i xs d h.1 (omega arith)

less : (n : ℕ) (s : Sums) → HasRoom (suc n) s → HasRoom n s
less n s h = record { debits = omega (arith, h.debits); credits = omega (arith, h.credits); aside = omega (arith, h.aside) }

pub less_room : (n : ℕ) (xs : List Sums) → HaveRoom (suc n) xs → HaveRoom n xs
less_room n [] h = tt
less_room n (x ∷ xs) h = (less n x h.0, less_room n xs h.1)

room_change : (n i : ℕ) (f : Sums → Sums) (xs : List Sums) → ((s : Sums) → HasRoom (suc n) s → HasRoom n (f s)) → HaveRoom (suc n) xs → HaveRoom n (change_at i f xs)
room_change n i f [] spends h = tt
room_change n zero f (x ∷ xs) spends h = (spends x h.0, less_room n xs h.1)
room_change n (suc i) f (x ∷ xs) spends h = (less n x h.0, room_change n i f xs spends h.1)

room_changed : (n a : ℕ) (f : Sums → Sums) (xs : List Sums) → ((s : Sums) → HasRoom (suc n) s → HasRoom n (f s)) → HaveRoom (suc n) xs → HaveRoom n (changed a f xs)
room_changed n zero f xs spends h = less_room n xs h
room_changed n (suc i) f xs spends h = room_change n i f xs spends h

-- each amount takes the room of one
pub room_debit : (n a amount : ℕ) (xs : List Sums) → amount ≤ MAX_CENTS → HaveRoom (suc n) xs → HaveRoom n (changed a (more_debits amount) xs)
room_debit n a amount xs small h = room_changed n a (more_debits amount) xs (λ s r. record { debits = omega (arith, r.debits); credits = omega (arith, r.credits); aside = omega (arith, r.aside) }) h

pub room_credit : (n a amount : ℕ) (xs : List Sums) → amount ≤ MAX_CENTS → HaveRoom (suc n) xs → HaveRoom n (changed a (more_credits amount) xs)
room_credit n a amount xs small h = room_changed n a (more_credits amount) xs (λ s r. record { debits = omega (arith, r.debits); credits = omega (arith, r.credits); aside = omega (arith, r.aside) }) h

pub room_aside : (n a amount : ℕ) (xs : List Sums) → amount ≤ MAX_CENTS → HaveRoom (suc n) xs → HaveRoom n (changed a (more_aside amount) xs)
room_aside n a amount xs small h = room_changed n a (more_aside amount) xs (λ s r. record { debits = omega (arith, r.debits); credits = omega (arith, r.credits); aside = omega (arith, r.aside) }) h
