-- Sums and lists over numbers, one number more.
use Rattle.std.proofs.Common.{◌≡◌, ◌∙◌, ℕ, zero, suc, ◌+◌, ◌<◌, List, [], ◌∷◌, ◌++◌, length, take, get_or, sym, ap, arith, add-one, append-nil}
use Rattle.std.specs.Prelude.{map, sum_by}
use Rattle.std.specs.List.{flat_map, range_with_len}
use Rattle.std.proofs.lemmas.List.{append_assoc, map-append, take_more}
use Rattle.std.proofs.lemmas.List.Sums.{sum_by-cons, sum_by_push}
use Rattle.std.proofs.lemmas.List.FromFn.{map-range_with_len_more}
use Rattle.std.proofs.lemmas.Grind.{flat_map-append}

pub sum_one_more : (f : ℕ → ℕ) (s k : ℕ) → sum_by f (range_with_len s (suc k)) ≡ sum_by f (range_with_len s k) + f (s + k)
sum_one_more f s zero =
    let a : sum_by f (s ∷ []) ≡ f s + sum_by f [] = sum_by-cons f s [] in
    let e : s ≡ s + 0 = omega arith in
    let b : f s ≡ f (s + 0) = ap f e in
    omega (arith, a, b)
sum_one_more f s (suc k) =
    let a : sum_by f (s ∷ range_with_len (s + 1) (suc k)) ≡ f s + sum_by f (range_with_len (s + 1) (suc k)) = sum_by-cons f s (range_with_len (s + 1) (suc k)) in
    let b : sum_by f (s ∷ range_with_len (s + 1) k) ≡ f s + sum_by f (range_with_len (s + 1) k) = sum_by-cons f s (range_with_len (s + 1) k) in
    let c : sum_by f (range_with_len (s + 1) (suc k)) ≡ sum_by f (range_with_len (s + 1) k) + f ((s + 1) + k) = sum_one_more f (s + 1) k in
    let e : (s + 1) + k ≡ s + suc k = omega arith in
    let d : f ((s + 1) + k) ≡ f (s + suc k) = ap f e in
    omega (arith, a, b, c, d)

pub sum_more : (f : ℕ → ℕ) (s k j sum part after : ℕ) → s + k ≡ j → sum ≡ sum_by f (range_with_len s k) → part ≡ f j → after ≡ sum + part → after ≡ sum_by f (range_with_len s (k + 1))
sum_more f s k j sum part after at h p a =
    a ∙ (λ i. h i + (p ∙ ap f (sym at)) i) ∙ sym (sum_one_more f s k) ∙ ap (λ len. sum_by f (range_with_len s len)) (sym (add-one k))

-- lists, one item more
pub flat_more : {X A : Type 0} (f : X → List A) (xs : List X) (i : ℕ) (x : X) → i < length xs → x ≡ get_or xs i x → flat_map f (take i xs) ++ f x ≡ flat_map f (take (i + 1) xs)
flat_more {X} {A} f xs i x inside at =
    let more : take (i + 1) xs ≡ take i xs ++ x ∷ [] = take_more xs i x inside ∙ ap (λ (y : X). take i xs ++ y ∷ []) (sym at) in
    ap (λ (text : List A). flat_map f (take i xs) ++ text) (sym (append-nil (f x))) ∙ sym (flat_map-append f (take i xs) (x ∷ [])) ∙ ap (flat_map f) (sym more)

range_more : (s k : ℕ) → range_with_len s (suc k) ≡ range_with_len s k ++ (s + k) ∷ []
range_more s zero = let e : s ≡ s + 0 = omega arith in ap (λ (n : ℕ). n ∷ []) e
range_more s (suc k) =
    let e : (s + 1) + k ≡ s + suc k = omega arith in
    ap (λ (rest : List ℕ). s ∷ rest) (range_more (s + 1) k ∙ ap (λ (n : ℕ). range_with_len (s + 1) k ++ n ∷ []) e)

-- over numbers from 1, one more
pub numbers_next : {A : Type 0} (f : ℕ → List A) (k : ℕ) → flat_map f (range_with_len 1 k) ++ f (k + 1) ≡ flat_map f (range_with_len 1 (k + 1))
numbers_next {A} f k =
    let e : 1 + k ≡ k + 1 = omega arith in
    ap (λ (rest : List A). flat_map f (range_with_len 1 k) ++ rest) (sym (append-nil (f (k + 1)))) ∙ sym (flat_map-append f (range_with_len 1 k) ((k + 1) ∷ []))
    ∙ ap (λ (n : ℕ). flat_map f (range_with_len 1 k ++ n ∷ [])) (sym e) ∙ ap (flat_map f) (sym (range_more 1 k)) ∙ ap (λ (len : ℕ). flat_map f (range_with_len 1 len)) (sym (add-one k))

-- a row for each number from 1, one more
pub row_more : {X : Type 0} (f : ℕ → X) (old new : List X) (i : ℕ) (x : X) → old ≡ map f (range_with_len 1 i) → x ≡ f (i + 1) → new ≡ old ++ x ∷ [] → new ≡ map f (range_with_len 1 (i + 1))
row_more {X} f old new i x h e n =
    n ∙ ap (λ (xs : List X). xs ++ x ∷ []) h ∙ ap (λ (y : X). map f (range_with_len 1 i) ++ y ∷ []) e ∙ sym (map-range_with_len_more f 1 i (i + 1) (omega arith))

-- an item more after what was there before
pub put_more : {X A : Type 0} (f : X → A) (base old new : List A) (xs : List X) (i : ℕ) (x : X) (y : A) → i < length xs → x ≡ get_or xs i x → old ≡ base ++ map f (take i xs) → y ≡ f x → new ≡ old ++ y ∷ [] → new ≡ base ++ map f (take (i + 1) xs)
put_more {X} {A} f base old new xs i x y inside at known is put =
    let more : take (i + 1) xs ≡ take i xs ++ x ∷ [] = take_more xs i x inside ∙ ap (λ (z : X). take i xs ++ z ∷ []) (sym at) in
    put ∙ ap (λ (zs : List A). zs ++ y ∷ []) known ∙ append_assoc base (map f (take i xs)) (y ∷ []) ∙ ap (λ (z : A). base ++ (map f (take i xs) ++ z ∷ [])) is
    ∙ ap (λ (zs : List A). base ++ zs) (sym (map-append f (take i xs) (x ∷ [])) ∙ ap (map f) (sym more))

-- and a list more
pub join_more : {X A : Type 0} (f : X → List A) (base old new part : List A) (xs : List X) (i : ℕ) (x : X) → i < length xs → x ≡ get_or xs i x → old ≡ base ++ flat_map f (take i xs) → part ≡ f x → new ≡ old ++ part → new ≡ base ++ flat_map f (take (i + 1) xs)
join_more {X} {A} f base old new part xs i x inside at known is put =
    put ∙ ap (λ (zs : List A). zs ++ part) known ∙ append_assoc base (flat_map f (take i xs)) part ∙ ap (λ (z : List A). base ++ (flat_map f (take i xs) ++ z)) is
    ∙ ap (λ (zs : List A). base ++ zs) (flat_more f xs i x inside at)

-- the same where nothing was there before
pub first_more : {X A : Type 0} (f : X → List A) (old new part : List A) (xs : List X) (i : ℕ) (x : X) → i < length xs → x ≡ get_or xs i x → old ≡ flat_map f (take i xs) → part ≡ f x → new ≡ old ++ part → new ≡ flat_map f (take (i + 1) xs)
first_more {X} {A} f old new part xs i x inside at known is put =
    put ∙ ap (λ (zs : List A). zs ++ part) known ∙ ap (λ (z : List A). flat_map f (take i xs) ++ z) is ∙ flat_more f xs i x inside at

-- a sum, one item more
pub sum_item : {X : Type 0} (f : X → ℕ) (xs : List X) (i : ℕ) (x : X) (sum part after : ℕ) → i < length xs → x ≡ get_or xs i x → sum ≡ sum_by f (take i xs) → part ≡ f x → after ≡ sum + part → after ≡ sum_by f (take (i + 1) xs)
sum_item {X} f xs i x sum part after inside at known is e =
    let more : take (i + 1) xs ≡ take i xs ++ x ∷ [] = take_more xs i x inside ∙ ap (λ (z : X). take i xs ++ z ∷ []) (sym at) in
    let pushed : sum_by f (take i xs ++ x ∷ []) ≡ sum_by f (take i xs) + f x = sum_by_push f (take i xs) x in
    let whole : after ≡ sum_by f (take i xs ++ x ∷ []) = omega (arith, pushed, known, is, e) in
    whole ∙ ap (sum_by f) (sym more)

-- ---- the same, of the item at i

pub sum_at : {X : Type 0} (f : X → ℕ) (xs : List X) (i : ℕ) (d : X) (sum part after : ℕ) → i < length xs → sum ≡ sum_by f (take i xs) → part ≡ f (get_or xs i d) → after ≡ sum + part → after ≡ sum_by f (take (i + 1) xs)
sum_at {X} f xs i d sum part after inside known is e =
    let x : X = get_or xs i d in
    let pushed : sum_by f (take i xs ++ x ∷ []) ≡ sum_by f (take i xs) + f x = sum_by_push f (take i xs) x in
    let whole : after ≡ sum_by f (take i xs ++ x ∷ []) = omega (arith, pushed, known, is, e) in
    whole ∙ ap (sum_by f) (sym (take_more xs i d inside))

flat_at : {X A : Type 0} (f : X → List A) (xs : List X) (i : ℕ) (d : X) → i < length xs → flat_map f (take i xs) ++ f (get_or xs i d) ≡ flat_map f (take (i + 1) xs)
flat_at {X} {A} f xs i d inside =
    let x : X = get_or xs i d in
    ap (λ (t : List A). flat_map f (take i xs) ++ t) (sym (append-nil (f x))) ∙ sym (flat_map-append f (take i xs) (x ∷ [])) ∙ ap (flat_map f) (sym (take_more xs i d inside))

pub first_at : {X A : Type 0} (f : X → List A) (old new part : List A) (xs : List X) (i : ℕ) (d : X) → i < length xs → old ≡ flat_map f (take i xs) → part ≡ f (get_or xs i d) → new ≡ old ++ part → new ≡ flat_map f (take (i + 1) xs)
first_at {X} {A} f old new part xs i d inside known is put =
    put ∙ ap (λ (zs : List A). zs ++ part) known ∙ ap (λ (z : List A). flat_map f (take i xs) ++ z) is ∙ flat_at f xs i d inside

pub join_at : {X A : Type 0} (f : X → List A) (base old new part : List A) (xs : List X) (i : ℕ) (d : X) → i < length xs → old ≡ base ++ flat_map f (take i xs) → part ≡ f (get_or xs i d) → new ≡ old ++ part → new ≡ base ++ flat_map f (take (i + 1) xs)
join_at {X} {A} f base old new part xs i d inside known is put =
    put ∙ ap (λ (zs : List A). zs ++ part) known ∙ append_assoc base (flat_map f (take i xs)) part ∙ ap (λ (z : List A). base ++ (flat_map f (take i xs) ++ z)) is
    ∙ ap (λ (zs : List A). base ++ zs) (flat_at f xs i d inside)

pub put_at : {X A : Type 0} (f : X → A) (base old new : List A) (xs : List X) (i : ℕ) (d : X) (y : A) → i < length xs → old ≡ base ++ map f (take i xs) → y ≡ f (get_or xs i d) → new ≡ old ++ y ∷ [] → new ≡ base ++ map f (take (i + 1) xs)
put_at {X} {A} f base old new xs i d y inside known is put =
    let x : X = get_or xs i d in
    put ∙ ap (λ (zs : List A). zs ++ y ∷ []) known ∙ append_assoc base (map f (take i xs)) (y ∷ []) ∙ ap (λ (z : A). base ++ (map f (take i xs) ++ z ∷ [])) is
    ∙ ap (λ (zs : List A). base ++ zs) (sym (map-append f (take i xs) (x ∷ [])) ∙ ap (map f) (sym (take_more xs i d inside)))
