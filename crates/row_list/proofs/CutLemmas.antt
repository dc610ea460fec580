-- Rows of one list: where they stand, and how they are begun, get items, change and go.
use Rattle.std.proofs.Common.{◌≡◌, ◌∙◌, ℕ, zero, suc, ◌+◌, ◌-◌, ◌≤◌, ◌<◌, List, [], ◌∷◌, ◌++◌, length, length-append, length-drop, get_or, take, drop, refl, sym, ap, subst, sum_by, arith}
use Rattle.std.proofs.lemmas.List.Sums.{sum_by-cons}
use Rattle.std.specs.Prelude.{slice_set}
use Rattle.row_list.specs.Cut.{RisesTo, cut}
use Rattle.row_list.specs.Rows.{Rows, all_but_last, last_row, row_at, with_changed, with_item}

-- ---- where rows stand

pub cut_length : {X : Type 0} (start : ℕ) (ends : List ℕ) (xs : List X) → length (cut start ends xs) ≡ length ends
unfolding cut
cut_length start [] xs = refl
cut_length start (end ∷ ends) xs = ap suc (cut_length end ends (drop (end - start) xs))

pub rises_high : (start : ℕ) (ends : List ℕ) (last : ℕ) → RisesTo start ends last → start ≤ last
unfolding RisesTo
rises_high start [] last r = omega (arith, r)
rises_high start (end ∷ ends) last r =
    let first : start ≤ end = r.0 in
    let more : end ≤ last = rises_high end ends last r.1 in
    omega (arith, first, more)

-- a row begins no later than it ends, no later than the items end, and no earlier than the first
pub begins_within : (start : ℕ) (ends : List ℕ) (last i : ℕ) → RisesTo start ends last → i < length ends → get_or (start ∷ ends) i 0 ≤ get_or ends i 0
unfolding RisesTo
begins_within start [] last i r l = absurd (omega arith)
begins_within start (end ∷ ends) last zero r l = r.0
begins_within start (end ∷ ends) last (suc i) r l = begins_within end ends last i r.1 (omega (arith, l))

pub ends_within : (start : ℕ) (ends : List ℕ) (last i : ℕ) → RisesTo start ends last → i < length ends → get_or ends i 0 ≤ last
unfolding RisesTo
ends_within start [] last i r l = absurd (omega arith)
ends_within start (end ∷ ends) last zero r l = rises_high end ends last r.1
ends_within start (end ∷ ends) last (suc i) r l = ends_within end ends last i r.1 (omega (arith, l))

pub begins_after : (start : ℕ) (ends : List ℕ) (last i : ℕ) → RisesTo start ends last → i < length ends → start ≤ get_or (start ∷ ends) i 0
unfolding RisesTo
begins_after start [] last i r l = absurd (omega arith)
begins_after start (end ∷ ends) last zero r l = omega arith
begins_after start (end ∷ ends) last (suc i) r l =
    let more : end ≤ get_or (end ∷ ends) i 0 = begins_after end ends last i r.1 (omega (arith, l)) in
    let first : start ≤ end = r.0 in
    omega (arith, first, more)

-- ---- a row

drop_none : {X : Type 0} (m : ℕ) → drop {A = X} m [] ≡ []
drop_none zero = refl
drop_none (suc m) = refl

-- what is left after m items, and then after n more
pub drop_drop : {X : Type 0} (m n k : ℕ) (xs : List X) → k ≡ m + n → drop n (drop m xs) ≡ drop k xs
drop_drop zero n k xs e = let same : n ≡ k = omega (arith, e) in ap (λ j. drop j xs) same
drop_drop (suc m) n k [] e = drop_none n ∙ sym (drop_none k)
drop_drop (suc m) n zero (x ∷ xs) e = absurd (omega (arith, e))
drop_drop (suc m) n (suc k) (x ∷ xs) e = drop_drop m n k xs (omega (arith, e))

row_from : {X : Type 0} (start : ℕ) (ends : List ℕ) (last i : ℕ) (xs : List X) → RisesTo start ends last → i < length ends
    → row_at (cut start ends xs) i ≡ take (get_or ends i 0 - get_or (start ∷ ends) i 0) (drop (get_or (start ∷ ends) i 0 - start) xs)
unfolding cut RisesTo
row_from start [] last i xs r l = absurd (omega arith)
row_from start (end ∷ ends) last zero xs r l = let none : start - start ≡ 0 = omega arith in ap (λ j. take (end - start) (drop j xs)) (sym none)
row_from start (end ∷ ends) last (suc i) xs r l =
    let first : start ≤ end = r.0 in
    let later : end ≤ get_or (end ∷ ends) i 0 = begins_after end ends last i r.1 (omega (arith, l)) in
    let sum : get_or (end ∷ ends) i 0 - start ≡ (end - start) + (get_or (end ∷ ends) i 0 - end) = omega (arith, first, later) in
    row_from end ends last i (drop (end - start) xs) r.1 (omega (arith, l))
    ∙ ap (take (get_or ends i 0 - get_or (end ∷ ends) i 0)) (drop_drop (end - start) (get_or (end ∷ ends) i 0 - end) (get_or (end ∷ ends) i 0 - start) xs sum)

pub row_is : {X : Type 0} (ends : List ℕ) (last i : ℕ) (xs : List X) → RisesTo 0 ends last → i < length ends
    → take (get_or ends i 0 - get_or (0 ∷ ends) i 0) (drop (get_or (0 ∷ ends) i 0) xs) ≡ row_at (cut 0 ends xs) i
row_is ends last i xs r l =
    let same : get_or (0 ∷ ends) i 0 - 0 ≡ get_or (0 ∷ ends) i 0 = omega arith in
    sym (row_from 0 ends last i xs r l ∙ ap (λ j. take (get_or ends i 0 - get_or (0 ∷ ends) i 0) (drop j xs)) same)

past_end : {A : Type 0} (xs : List A) (i : ℕ) (a : A) → length xs ≤ i → get_or xs i a ≡ a
past_end [] i a l = refl
past_end (x ∷ xs) zero a l = absurd (omega arith)
past_end (x ∷ xs) (suc i) a l = past_end xs i a (omega (arith, l))

pub no_row : {X : Type 0} (ends : List ℕ) (i : ℕ) (xs : List X) → length ends ≤ i → [] ≡ row_at (cut 0 ends xs) i
no_row ends i xs l = sym (past_end (cut 0 ends xs) i [] (omega (arith, l, cut_length 0 ends xs)))

-- ---- one more row

take_all : {X : Type 0} (m : ℕ) (xs : List X) → length xs ≤ m → take m xs ≡ xs
take_all zero [] l = refl
take_all zero (x ∷ xs) l = absurd (omega arith)
take_all (suc m) [] l = refl
take_all (suc m) (x ∷ xs) l = ap (λ ys. x ∷ ys) (take_all m xs (omega (arith, l)))

take_none : {X : Type 0} (m : ℕ) (xs : List X) → m ≡ 0 → take m xs ≡ []
take_none m xs e = ap (λ j. take j xs) e

pub cut_begun : {X : Type 0} (start : ℕ) (ends : List ℕ) (last : ℕ) (xs : List X) → RisesTo start ends last → cut start (ends ++ last ∷ []) xs ≡ cut start ends xs ++ [] ∷ []
unfolding cut RisesTo
cut_begun start [] last xs r = let none : last - start ≡ 0 = omega (arith, r) in ap (λ ys. ys ∷ []) (take_none (last - start) xs none)
cut_begun start (end ∷ ends) last xs r = ap (λ rows. take (end - start) xs ∷ rows) (cut_begun end ends last (drop (end - start) xs) r.1)

pub rises_begun : (start : ℕ) (ends : List ℕ) (last : ℕ) → RisesTo start ends last → RisesTo start (ends ++ last ∷ []) last
unfolding RisesTo
rises_begun start [] last r = (omega (arith, r), refl)
rises_begun start (end ∷ ends) last r = (r.0, rises_begun end ends last r.1)

-- ---- one more item of the last row, whose index is i

pub rises_item : (start : ℕ) (ends : List ℕ) (i last next : ℕ) → RisesTo start ends last → length ends ≡ i + 1 → last ≤ next → RisesTo start (slice_set ends i next) next
unfolding RisesTo
rises_item start [] i last next r l m = absurd (omega (arith, l))
rises_item start (end ∷ []) zero last next r l m = let first : start ≤ end = r.0 in let same : end ≡ last = r.1 in (omega (arith, first, same, m), refl)
rises_item start (end ∷ []) (suc i) last next r l m = absurd (omega (arith, l))
rises_item start (end ∷ more ∷ ends) zero last next r l m = absurd (omega (arith, l))
rises_item start (end ∷ more ∷ ends) (suc i) last next r l m = (r.0, rises_item end (more ∷ ends) i last next r.1 (omega (arith, l)) m)

take_front : {X : Type 0} (m : ℕ) (xs ys : List X) → m ≤ length xs → take m (xs ++ ys) ≡ take m xs
take_front zero xs ys l = refl
take_front (suc m) [] ys l = absurd (omega arith)
take_front (suc m) (x ∷ xs) ys l = ap (λ zs. x ∷ zs) (take_front m xs ys (omega (arith, l)))

drop_front : {X : Type 0} (m : ℕ) (xs ys : List X) → m ≤ length xs → drop m (xs ++ ys) ≡ drop m xs ++ ys
drop_front zero xs ys l = refl
drop_front (suc m) [] ys l = absurd (omega arith)
drop_front (suc m) (x ∷ xs) ys l = drop_front m xs ys (omega (arith, l))

pub cut_item : {X : Type 0} (start : ℕ) (ends : List ℕ) (i last next : ℕ) (xs : List X) (x : X) → RisesTo start ends last → last ≡ start + length xs → next ≡ last + 1 → length ends ≡ i + 1
    → cut start (slice_set ends i next) (xs ++ x ∷ []) ≡ with_item x (cut start ends xs)
unfolding cut RisesTo with_item
cut_item start [] i last next xs x r e n l = absurd (omega (arith, l))
cut_item start (end ∷ []) (suc i) last next xs x r e n l = absurd (omega (arith, l))
cut_item start (end ∷ []) zero last next xs x r e n l =
    let same : end ≡ last = r.1 in
    let old : length xs ≤ end - start = omega (arith, same, e) in
    let new : length (xs ++ x ∷ []) ≤ next - start = omega (arith, length-append xs (x ∷ []), e, n) in
    ap (λ row. row ∷ []) (take_all (next - start) (xs ++ x ∷ []) new ∙ ap (λ row. row ++ x ∷ []) (sym (take_all (end - start) xs old)))
cut_item start (end ∷ more ∷ ends) zero last next xs x r e n l = absurd (omega (arith, l))
cut_item start (end ∷ more ∷ ends) (suc i) last next xs x r e n l =
    let first : start ≤ end = r.0 in
    let high : end ≤ last = rises_high end (more ∷ ends) last r.1 in
    let inside : end - start ≤ length xs = omega (arith, first, high, e) in
    let left : last ≡ end + length (drop (end - start) xs) = omega (arith, first, high, e, length-drop (end - start) xs) in
    (λ j. take_front (end - start) xs (x ∷ []) inside j ∷ cut end (slice_set (more ∷ ends) i next) (drop_front (end - start) xs (x ∷ []) inside j))
    ∙ ap (λ rows. take (end - start) xs ∷ rows) (cut_item end (more ∷ ends) i last next (drop (end - start) xs) x r.1 left n (omega (arith, l)))

-- ---- the first i rows

pub rises_shorter : (start : ℕ) (ends : List ℕ) (last i : ℕ) → RisesTo start ends last → i < length ends → RisesTo start (take i ends) (get_or (start ∷ ends) i 0)
unfolding RisesTo
rises_shorter start [] last i r l = absurd (omega arith)
rises_shorter start (end ∷ ends) last zero r l = refl
rises_shorter start (end ∷ ends) last (suc i) r l = (r.0, rises_shorter end ends last i r.1 (omega (arith, l)))

take_less : {X : Type 0} (m n : ℕ) (xs : List X) → m ≤ n → take m (take n xs) ≡ take m xs
take_less zero n xs l = refl
take_less (suc m) zero xs l = absurd (omega arith)
take_less (suc m) (suc n) [] l = refl
take_less (suc m) (suc n) (x ∷ xs) l = ap (λ ys. x ∷ ys) (take_less m n xs (omega (arith, l)))

drop_take : {X : Type 0} (m n k : ℕ) (xs : List X) → n ≡ m + k → drop m (take n xs) ≡ take k (drop m xs)
drop_take zero n k xs e = let same : n ≡ k = omega (arith, e) in ap (λ j. take j xs) same
drop_take (suc m) zero k xs e = absurd (omega (arith, e))
drop_take (suc m) (suc n) zero [] e = refl
drop_take (suc m) (suc n) (suc k) [] e = refl
drop_take (suc m) (suc n) k (x ∷ xs) e = drop_take m n k xs (omega (arith, e))

shorter_from : {X : Type 0} (start : ℕ) (ends : List ℕ) (last i : ℕ) (xs : List X) → RisesTo start ends last → i < length ends
    → cut start (take i ends) (take (get_or (start ∷ ends) i 0 - start) xs) ≡ take i (cut start ends xs)
unfolding cut RisesTo
shorter_from start [] last i xs r l = absurd (omega arith)
shorter_from start (end ∷ ends) last zero xs r l = refl
shorter_from start (end ∷ ends) last (suc i) xs r l =
    let first : start ≤ end = r.0 in
    let later : end ≤ get_or (end ∷ ends) i 0 = begins_after end ends last i r.1 (omega (arith, l)) in
    let inside : end - start ≤ get_or (end ∷ ends) i 0 - start = omega (arith, first, later) in
    let sum : get_or (end ∷ ends) i 0 - start ≡ (end - start) + (get_or (end ∷ ends) i 0 - end) = omega (arith, first, later) in
    (λ j. take_less (end - start) (get_or (end ∷ ends) i 0 - start) xs inside j ∷ cut end (take i ends) (drop_take (end - start) (get_or (end ∷ ends) i 0 - start) (get_or (end ∷ ends) i 0 - end) xs sum j))
    ∙ ap (λ rows. take (end - start) xs ∷ rows) (shorter_from end ends last i (drop (end - start) xs) r.1 (omega (arith, l)))

pub cut_shorter : {X : Type 0} (ends : List ℕ) (last i : ℕ) (xs : List X) → RisesTo 0 ends last → i < length ends
    → cut 0 (take i ends) (take (get_or (0 ∷ ends) i 0) xs) ≡ take i (cut 0 ends xs)
cut_shorter ends last i xs r l =
    let same : get_or (0 ∷ ends) i 0 - 0 ≡ get_or (0 ∷ ends) i 0 = omega arith in
    sym (ap (λ j. cut 0 (take i ends) (take j xs)) same) ∙ shorter_from 0 ends last i xs r l

-- ---- an item that changes

take_set_before : {X : Type 0} (m i : ℕ) (xs : List X) (x : X) → m ≤ i → take m (slice_set xs i x) ≡ take m xs
take_set_before zero i xs x l = refl
take_set_before (suc m) i [] x l = refl
take_set_before (suc m) zero (y ∷ xs) x l = absurd (omega arith)
take_set_before (suc m) (suc i) (y ∷ xs) x l = ap (λ ys. y ∷ ys) (take_set_before m i xs x (omega (arith, l)))

take_set : {X : Type 0} (m i : ℕ) (xs : List X) (x : X) → take m (slice_set xs i x) ≡ slice_set (take m xs) i x
take_set zero i xs x = refl
take_set (suc m) i [] x = refl
take_set (suc m) zero (y ∷ xs) x = refl
take_set (suc m) (suc i) (y ∷ xs) x = ap (λ ys. y ∷ ys) (take_set m i xs x)

drop_set_before : {X : Type 0} (m i : ℕ) (xs : List X) (x : X) → i < m → drop m (slice_set xs i x) ≡ drop m xs
drop_set_before zero i xs x l = absurd (omega arith)
drop_set_before (suc m) i [] x l = refl
drop_set_before (suc m) zero (y ∷ xs) x l = refl
drop_set_before (suc m) (suc i) (y ∷ xs) x l = drop_set_before m i xs x (omega (arith, l))

drop_set : {X : Type 0} (m i j : ℕ) (xs : List X) (x : X) → i ≡ m + j → drop m (slice_set xs i x) ≡ slice_set (drop m xs) j x
drop_set zero i j xs x e = let same : i ≡ j = omega (arith, e) in ap (λ k. slice_set xs k x) same
drop_set (suc m) i j [] x e = refl
drop_set (suc m) zero j (y ∷ xs) x e = absurd (omega (arith, e))
drop_set (suc m) (suc i) j (y ∷ xs) x e = drop_set m i j xs x (omega (arith, e))

changed_from : {X : Type 0} (start : ℕ) (ends : List ℕ) (last i k : ℕ) (xs : List X) (x : X) → RisesTo start ends last → i < length ends → get_or (start ∷ ends) i 0 + k < get_or ends i 0
    → cut start ends (slice_set xs (get_or (start ∷ ends) i 0 + k - start) x) ≡ with_changed i k x (cut start ends xs)
unfolding cut RisesTo with_changed
changed_from start [] last i k xs x r l h = absurd (omega arith)
changed_from start (end ∷ ends) last zero k xs x r l h =
    let here : start + k - start ≡ k = omega arith in
    let low : k < end - start = omega (arith, h) in
    ap (λ j. take (end - start) (slice_set xs j x) ∷ cut end ends (drop (end - start) (slice_set xs j x))) here
    ∙ (λ i. take_set (end - start) k xs x i ∷ cut end ends (drop_set_before (end - start) k xs x low i))
changed_from start (end ∷ ends) last (suc i) k xs x r l h =
    let first : start ≤ end = r.0 in
    let later : end ≤ get_or (end ∷ ends) i 0 = begins_after end ends last i r.1 (omega (arith, l)) in
    let at : ℕ = get_or (end ∷ ends) i 0 + k in
    let far : end - start ≤ get_or (end ∷ ends) i 0 + k - start = omega (arith, first, later) in
    let sum : get_or (end ∷ ends) i 0 + k - start ≡ (end - start) + (get_or (end ∷ ends) i 0 + k - end) = omega (arith, first, later) in
    (λ j. take_set_before (end - start) (get_or (end ∷ ends) i 0 + k - start) xs x far j ∷ cut end ends (drop_set (end - start) (get_or (end ∷ ends) i 0 + k - start) (get_or (end ∷ ends) i 0 + k - end) xs x sum j))
    ∙ ap (λ rows. take (end - start) xs ∷ rows) (changed_from end ends last i k (drop (end - start) xs) x r.1 (omega (arith, l)) h)

pub cut_changed : {X : Type 0} (ends : List ℕ) (last i k : ℕ) (xs : List X) (x : X) → RisesTo 0 ends last → i < length ends → get_or (0 ∷ ends) i 0 + k < get_or ends i 0
    → cut 0 ends (slice_set xs (get_or (0 ∷ ends) i 0 + k) x) ≡ with_changed i k x (cut 0 ends xs)
cut_changed ends last i k xs x r l h =
    let same : get_or (0 ∷ ends) i 0 + k - 0 ≡ get_or (0 ∷ ends) i 0 + k = omega arith in
    sym (ap (λ j. cut 0 ends (slice_set xs j x)) same) ∙ changed_from 0 ends last i k xs x r l h

-- ---- an item that isn't there

set_past : {X : Type 0} (i : ℕ) (xs : List X) (x : X) → length xs ≤ i → slice_set xs i x ≡ xs
set_past i [] x l = refl
set_past zero (y ∷ xs) x l = absurd (omega arith)
set_past (suc i) (y ∷ xs) x l = ap (λ ys. y ∷ ys) (set_past i xs x (omega (arith, l)))

pub unchanged : {X : Type 0} (i k : ℕ) (rows : List (List X)) (x : X) → length (row_at rows i) ≤ k → with_changed i k x rows ≡ rows
unfolding with_changed
unchanged i k [] x l = refl
unchanged zero k (row ∷ rows) x l = ap (λ r. r ∷ rows) (set_past k row x l)
unchanged (suc i) k (row ∷ rows) x l = ap (λ rs. row ∷ rs) (unchanged i k rows x l)

-- ---- what callers see

abbrev pub shown : {X : Type 0} → List (List X) → ℕ → ℕ → Rows X
shown rows r s = record { rows = rows; room_for_rows = r; room_for_items = s }

pub same_shown : {X : Type 0} (rows other : List (List X)) (r s t u : ℕ) → rows ≡ other → r ≡ s → t ≡ u → shown rows r t ≡ shown other s u
same_shown rows other r s t u p q w = λ i. record { rows = p i; room_for_rows = q i; room_for_items = w i }

-- one more row, of the end n
pub begins : {X : Type 0} (ends new : List ℕ) (xs : List X) (n : ℕ) → RisesTo 0 ends (length xs) → n ≡ length xs → new ≡ ends ++ n ∷ [] → RisesTo 0 new (length xs)
begins ends new xs n r e w = subst (λ es. RisesTo 0 es (length xs)) (sym (w ∙ ap (λ j. ends ++ j ∷ []) e)) (rises_begun 0 ends (length xs) r)

pub rows_begun : {X : Type 0} (ends new : List ℕ) (xs : List X) (n : ℕ) → RisesTo 0 ends (length xs) → n ≡ length xs → new ≡ ends ++ n ∷ [] → cut 0 new xs ≡ cut 0 ends xs ++ [] ∷ []
rows_begun ends new xs n r e w = ap (λ es. cut 0 es xs) (w ∙ ap (λ j. ends ++ j ∷ []) e) ∙ cut_begun 0 ends (length xs) xs r

-- one more item, which makes the items ys and ends the last row at n
pub goes_on : {X : Type 0} (ends : List ℕ) (xs ys : List X) (i n : ℕ) (x : X) → RisesTo 0 ends (length xs) → ys ≡ xs ++ x ∷ [] → n ≡ length ys → length ends ≡ i + 1 → RisesTo 0 (slice_set ends i n) (length ys)
goes_on ends xs ys i n x r w e l =
    let size : length ys ≡ length xs + 1 = ap length w ∙ length-append xs (x ∷ []) in
    subst (λ j. RisesTo 0 (slice_set ends i j) (length ys)) (sym e) (rises_item 0 ends i (length xs) (length ys) r l (omega (arith, size)))

pub rows_with : {X : Type 0} (ends : List ℕ) (xs ys : List X) (i n : ℕ) (x : X) → RisesTo 0 ends (length xs) → ys ≡ xs ++ x ∷ [] → n ≡ length ys → length ends ≡ i + 1 → cut 0 (slice_set ends i n) ys ≡ with_item x (cut 0 ends xs)
rows_with ends xs ys i n x r w e l =
    let size : n ≡ length xs + 1 = e ∙ ap length w ∙ length-append xs (x ∷ []) in
    let none : length xs ≡ 0 + length xs = omega arith in
    ap (cut 0 (slice_set ends i n)) w ∙ cut_item 0 ends i (length xs) n xs x r none size l

-- where row i begins there are as many items after it as the row has, if it is the last
pub last_size : {X : Type 0} (start : ℕ) (ends : List ℕ) (i : ℕ) (xs : List X) → RisesTo start ends (start + length xs) → length ends ≡ i + 1 → start + length xs ≡ get_or (start ∷ ends) i 0 + length (row_at (cut start ends xs) i)
unfolding cut RisesTo
last_size start [] i xs r l = absurd (omega (arith, l))
last_size start (end ∷ []) zero xs r l =
    let same : end ≡ start + length xs = r.1 in
    let all : length xs ≤ end - start = omega (arith, same) in
    ap (λ ys. start + length ys) (sym (take_all (end - start) xs all))
last_size start (end ∷ []) (suc i) xs r l = absurd (omega (arith, l))
last_size start (end ∷ more ∷ ends) zero xs r l = absurd (omega (arith, l))
last_size start (end ∷ more ∷ ends) (suc i) xs r l =
    let first : start ≤ end = r.0 in
    let high : end ≤ start + length xs = rises_high end (more ∷ ends) (start + length xs) r.1 in
    let sum : end + length (drop (end - start) xs) ≡ start + length xs = omega (arith, first, high, length-drop (end - start) xs) in
    sym sum ∙ last_size end (more ∷ ends) i (drop (end - start) xs) (subst (RisesTo end (more ∷ ends)) (sym sum) r.1) (omega (arith, l))

-- there are as many rows as ends
pub as_many : {X : Type 0} (ends : List ℕ) (xs : List X) (rows : List (List X)) (n : ℕ) → n ≡ length ends → cut 0 ends xs ≡ rows → n ≡ length rows
as_many ends xs rows n e w = e ∙ sym (cut_length 0 ends xs) ∙ ap length w

-- no rows
pub none_rise : {X : Type 0} (ends : List ℕ) (xs : List X) → ends ≡ [] → xs ≡ [] → RisesTo 0 ends (length xs)
unfolding RisesTo
none_rise ends xs e w = subst (λ es. RisesTo 0 es (length xs)) (sym e) (sym (ap length w))

pub none_cut : {X : Type 0} (ends : List ℕ) (xs : List X) → ends ≡ [] → cut 0 ends xs ≡ []
unfolding cut
none_cut ends xs e = ap (λ es. cut 0 es xs) e

long_take : {X : Type 0} (m : ℕ) (xs : List X) → m ≤ length xs → length (take m xs) ≡ m
long_take zero xs l = refl
long_take (suc m) [] l = absurd (omega arith)
long_take (suc m) (x ∷ xs) l = ap suc (long_take m xs (omega (arith, l)))

pub row_size : {X : Type 0} (ends : List ℕ) (i : ℕ) (xs : List X) → RisesTo 0 ends (length xs) → i < length ends → length (row_at (cut 0 ends xs) i) ≡ get_or ends i 0 - get_or (0 ∷ ends) i 0
row_size ends i xs r l =
    let within : get_or ends i 0 ≤ length xs = ends_within 0 ends (length xs) i r l in
    let fits : get_or ends i 0 - get_or (0 ∷ ends) i 0 ≤ length (drop (get_or (0 ∷ ends) i 0) xs) = omega (arith, within, length-drop (get_or (0 ∷ ends) i 0) xs) in
    sym (ap length (row_is ends (length xs) i xs r l)) ∙ long_take _ _ fits

pub no_item : {X : Type 0} (ends : List ℕ) (i k : ℕ) (xs : List X) → length ends ≤ i → length (row_at (cut 0 ends xs) i) ≤ k
no_item ends i k xs l = let none : length (row_at (cut 0 ends xs) i) ≡ 0 = ap length (sym (no_row ends i xs l)) in omega (arith, none)

-- all rows but the last, which begins at start
pub rises_without : {X : Type 0} (ends new : List ℕ) (xs ys : List X) (i start : ℕ) → RisesTo 0 ends (length xs) → length ends ≡ i + 1 → start ≡ get_or (0 ∷ ends) i 0 → new ≡ take i ends → ys ≡ take start xs → RisesTo 0 new (length ys)
rises_without ends new xs ys i start r l s e w =
    let inside : i < length ends = omega (arith, l) in
    let low : get_or (0 ∷ ends) i 0 ≤ get_or ends i 0 = begins_within 0 ends (length xs) i r inside in
    let high : get_or ends i 0 ≤ length xs = ends_within 0 ends (length xs) i r inside in
    let size : length ys ≡ get_or (0 ∷ ends) i 0 = ap length (w ∙ ap (λ j. take j xs) s) ∙ long_take _ xs (omega (arith, low, high)) in
    subst (RisesTo 0 new) (sym size) (subst (λ es. RisesTo 0 es (get_or (0 ∷ ends) i 0)) (sym e) (rises_shorter 0 ends (length xs) i r inside))

pub rows_without : {X : Type 0} (ends new : List ℕ) (xs ys : List X) (i start : ℕ) → RisesTo 0 ends (length xs) → length ends ≡ i + 1 → start ≡ get_or (0 ∷ ends) i 0 → new ≡ take i ends → ys ≡ take start xs → cut 0 new ys ≡ all_but_last (cut 0 ends xs)
rows_without ends new xs ys i start r l s e w =
    let inside : i < length ends = omega (arith, l) in
    let last : i ≡ length (cut 0 ends xs) - 1 = omega (arith, l, cut_length 0 ends xs) in
    (λ j. cut 0 (e j) ((w ∙ ap (λ k. take k xs) s) j)) ∙ cut_shorter ends (length xs) i xs r inside ∙ ap (λ k. take k (cut 0 ends xs)) last

pub freed : {X : Type 0} (ends : List ℕ) (xs ys : List X) (i start : ℕ) → RisesTo 0 ends (length xs) → length ends ≡ i + 1 → start ≡ get_or (0 ∷ ends) i 0 → ys ≡ take start xs → length xs ≡ length ys + length (last_row (cut 0 ends xs))
freed ends xs ys i start r l s w =
    let inside : i < length ends = omega (arith, l) in
    let last : i ≡ length (cut 0 ends xs) - 1 = omega (arith, l, cut_length 0 ends xs) in
    let low : get_or (0 ∷ ends) i 0 ≤ get_or ends i 0 = begins_within 0 ends (length xs) i r inside in
    let high : get_or ends i 0 ≤ length xs = ends_within 0 ends (length xs) i r inside in
    let size : length ys ≡ get_or (0 ∷ ends) i 0 = ap length (w ∙ ap (λ j. take j xs) s) ∙ long_take _ xs (omega (arith, low, high)) in
    let row : length (row_at (cut 0 ends xs) i) ≡ length (last_row (cut 0 ends xs)) = ap (λ k. length (row_at (cut 0 ends xs) k)) last in
    let none : length xs ≡ 0 + length xs = omega arith in
    let sum : 0 + length xs ≡ get_or (0 ∷ ends) i 0 + length (row_at (cut 0 ends xs) i) = last_size 0 ends i xs (subst (RisesTo 0 ends) none r) l in
    omega (arith, size, row, sum)

-- an item that is there is the same whatever stands for one that isn't
pub there : (xs : List ℕ) (i d x : ℕ) → i < length xs → x ≡ get_or xs i d → x ≡ get_or xs i 0
there [] i d x l e = absurd (omega arith)
there (y ∷ xs) zero d x l e = e
there (y ∷ xs) (suc i) d x l e = there xs i d x (omega (arith, l)) e

-- ---- how many items there are

sum_from : {X : Type 0} (start : ℕ) (ends : List ℕ) (xs : List X) → RisesTo start ends (start + length xs) → sum_by length (cut start ends xs) ≡ length xs
unfolding cut RisesTo
sum_from start [] [] r = refl
sum_from start [] (x ∷ xs) r = absurd (omega (arith, r))
sum_from start (end ∷ ends) xs r =
    let first : start ≤ end = r.0 in
    let high : end ≤ start + length xs = rises_high end ends (start + length xs) r.1 in
    let sum : end + length (drop (end - start) xs) ≡ start + length xs = omega (arith, first, high, length-drop (end - start) xs) in
    let size : length (take (end - start) xs) ≡ end - start = long_take (end - start) xs (omega (arith, first, high)) in
    let rest : sum_by length (cut end ends (drop (end - start) xs)) ≡ length (drop (end - start) xs) = sum_from end ends (drop (end - start) xs) (subst (RisesTo end ends) (sym sum) r.1) in
    sum_by-cons length (take (end - start) xs) (cut end ends (drop (end - start) xs)) ∙ omega (arith, first, high, sum, size, rest)

pub all_items : {X : Type 0} (ends : List ℕ) (xs : List X) → RisesTo 0 ends (length xs) → sum_by length (cut 0 ends xs) ≡ length xs
all_items ends xs r = let none : length xs ≡ 0 + length xs = omega arith in sum_from 0 ends xs (subst (RisesTo 0 ends) none r)
