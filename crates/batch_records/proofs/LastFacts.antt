-- The last element of a list, and a list whose last element has changed.
use Rattle.std.proofs.Common.{◌≡◌, ◌<◌, ◌-◌, ℕ, suc, List, [], ◌∷◌, ◌++◌, Some, length, length-append, get_or, refl, ap, arith}
use Rattle.std.specs.Prelude.{Result, Ok, Err, OnOk, slice_get}
use Rattle.std.proofs.Math.ListN.{set}
use Rattle.batch_records.specs.Step.{with_last}

last_set : {X : Type 0} (f : X → X) (xs : List X) (x : X) → 0 < length xs → x ≡ get_or xs (length xs - 1) x → set xs (length xs - 1) (f x) ≡ with_last f xs
unfolding with_last
last_set f [] x some is = absurd (omega arith)
last_set f (a ∷ []) x some is = rw is refl
last_set {X} f (a ∷ b ∷ rest) x some is =
    let here : suc (suc (length rest)) - 1 ≡ suc (length rest) = omega arith in
    let next : suc (length rest) - 1 ≡ length rest = omega arith in
    let more = last_set f (b ∷ rest) x (omega arith) (rw next (rw here at is)) in
    rw here (ap (λ (l : List X). a ∷ l) (rw next at more))

pub last_changed : {X : Type 0} (f : X → X) (xs : List X) (x y : X) (n : ℕ) → n ≡ length xs → 0 < n → x ≡ get_or xs (n - 1) x → y ≡ f x → set xs (n - 1) y ≡ with_last f xs
last_changed f xs x y n e some is to = rw (to, e) (last_set f xs x (rw e at some) (rw e at is))

pub unchanged : {X : Type 0} (f : X → X) (xs : List X) (n : ℕ) → n ≡ length xs → (0 < n → ⊥) → xs ≡ with_last f xs
unfolding with_last
unchanged f [] n e none = refl
unchanged f (x ∷ xs) n e none = absurd (none (omega arith))

pub on_ok_map : {A E : Type 0} {P Q : Type 0} (r : Result A E) → (P → Q) → OnOk r P → OnOk r Q
on_ok_map (Ok a) f h = f h
on_ok_map (Err e) f h = h

pub with_last-split : {X : Type 0} (f : X → X) (xs : List X) (x : X) → with_last f (xs ++ x ∷ []) ≡ xs ++ f x ∷ []
unfolding with_last
with_last-split f [] x = refl
with_last-split f (a ∷ []) x = refl
with_last-split {X} f (a ∷ b ∷ rest) x = ap (λ (l : List X). a ∷ l) (with_last-split f (b ∷ rest) x)

pub length-with_last : {X : Type 0} (f : X → X) (xs : List X) → length (with_last f xs) ≡ length xs
unfolding with_last
length-with_last f [] = refl
length-with_last f (x ∷ []) = refl
length-with_last f (x ∷ y ∷ rest) = ap (λ (n : ℕ). suc n) (length-with_last f (y ∷ rest))

last_at : {X : Type 0} (xs : List X) (x : X) → slice_get (xs ++ x ∷ []) (length xs) ≡ Some x
last_at [] x = refl
last_at (a ∷ xs) x = last_at xs x

pub last_is : {X : Type 0} (xs : List X) (x : X) → slice_get (xs ++ x ∷ []) (length (xs ++ x ∷ []) - 1) ≡ Some x
last_is xs x =
    let at : length (xs ++ x ∷ []) - 1 ≡ length xs = omega (arith, length-append xs (x ∷ [])) in
    rw at (last_at xs x)
