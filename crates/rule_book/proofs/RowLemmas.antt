-- Rows of one list: where their items stand, and how they are made one after another.
use Rattle.std.proofs.Common.{◌≡◌, ◌∙◌, ℕ, zero, suc, ◌+◌, ◌-◌, ◌≤◌, ◌<◌, Bool, true, false, List, [], ◌∷◌, ◌++◌, Option, Some, None, length, length-append, length-drop, get_or, take, drop, refl, sym, ap, subst, arith, map}
use Rattle.std.specs.Prelude.{nat_lt, slice_get, unwrap_or}
use Rattle.std.specs.List.{range_with_len}
use Rattle.std.specs.Option.{option_map_or}
use Rattle.std.proofs.lemmas.Bool.{lt-ltb, le-ltb, ltb-true, ltb-false}
use Rattle.std.proofs.lemmas.Option.{same_Some, slice_get_past}
use Rattle.std.proofs.lemmas.List.FromFn.{map-range_with_len_more}
use Rattle.row_list.proofs.CutLemmas.{drop_drop}
use Rattle.machine.specs.Words.{numbered, when}
use Rattle.rule_book.specs.Moves.{row_in}
use Rattle.rule_book.specs.Rows.{Rises, RisesTo, cut, spot_from, spot_of}

-- ---- where items stand

spot_within : (start : ℕ) (ends : List ℕ) (i k : ℕ) → i < length ends → spot_from start ends i k ≡ when (nat_lt k (get_or ends i 0 - get_or (start ∷ ends) i 0)) (get_or (start ∷ ends) i 0 + k)
unfolding spot_from
spot_within start [] i k l = absurd (omega arith)
spot_within start (end ∷ ends) zero k l = refl
spot_within start (end ∷ ends) (suc i) k l = spot_within end ends i k (omega (arith, l))

spot_outside : (start : ℕ) (ends : List ℕ) (i k : ℕ) → length ends ≤ i → spot_from start ends i k ≡ None
unfolding spot_from
spot_outside start [] i k l = refl
spot_outside start (end ∷ ends) zero k l = absurd (omega arith)
spot_outside start (end ∷ ends) (suc i) k l = spot_outside end ends i k (omega (arith, l))

pub spot_none : (ends : List ℕ) (n k : ℕ) → n ≡ 0 → None ≡ spot_of ends n k
spot_none ends n k e = sym (ap (λ m. spot_of ends m k) e)

pub spot_past : (ends : List ℕ) (n k : ℕ) → length ends < n → None ≡ spot_of ends n k
spot_past ends zero k l = refl
spot_past ends (suc i) k l = sym (spot_outside 0 ends i k (omega (arith, l)))

spot_here : (ends : List ℕ) (n k start size : ℕ) → (n ≡ 0 → ⊥) → n ≤ length ends → start ≡ get_or (0 ∷ ends) (n - 1) 0 → size ≡ get_or ends (n - 1) 0 - start → when (nat_lt k size) (start + k) ≡ spot_of ends n k
spot_here ends zero k start size ne l s z = absurd (ne refl)
spot_here ends (suc i) k start size ne l s z =
    let here : suc i - 1 ≡ i = omega arith in
    let first : start ≡ get_or (0 ∷ ends) i 0 = s ∙ ap (λ j. get_or (0 ∷ ends) j 0) here in
    let long : size ≡ get_or ends i 0 - get_or (0 ∷ ends) i 0 = z ∙ (λ j. get_or ends (here j) 0 - first j) in
    (λ j. when (nat_lt k (long j)) (first j + k)) ∙ sym (spot_within 0 ends i k (omega (arith, l)))

pub spot_yes : (ends : List ℕ) (n k start size : ℕ) → (n ≡ 0 → ⊥) → n ≤ length ends → start ≡ get_or (0 ∷ ends) (n - 1) 0 → size ≡ get_or ends (n - 1) 0 - start → k < size → Some (start + k) ≡ spot_of ends n k
spot_yes ends n k start size ne l s z h = sym (ap (λ b. when b (start + k)) (lt-ltb k size h)) ∙ spot_here ends n k start size ne l s z

pub spot_no : (ends : List ℕ) (n k start size : ℕ) → (n ≡ 0 → ⊥) → n ≤ length ends → start ≡ get_or (0 ∷ ends) (n - 1) 0 → size ≡ get_or ends (n - 1) 0 - start → size ≤ k → None ≡ spot_of ends n k
spot_no ends n k start size ne l s z h = sym (ap (λ b. when b (start + k)) (le-ltb k size h)) ∙ spot_here ends n k start size ne l s z

-- a spot is no lower than where the rows begin
pub when_some : (b : Bool) (x j : ℕ) → when b x ≡ Some j → (b ≡ true) × (x ≡ j)
when_some true x j e = (refl, same_Some x j e)
when_some false x j e = cc

pub spot_low : (start : ℕ) (ends : List ℕ) (i k j : ℕ) → Rises start ends → spot_from start ends i k ≡ Some j → start ≤ j
unfolding spot_from Rises
spot_low start [] i k j r e = cc
spot_low start (end ∷ ends) zero k j r e = let same : start + k ≡ j = (when_some _ _ j e).1 in omega (arith, same)
spot_low start (end ∷ ends) (suc i) k j r e =
    let low : end ≤ j = spot_low end ends i k j r.1 e in
    let first : start ≤ end = r.0 in
    omega (arith, low, first)

-- ---- an item of a row

get_take : {X : Type 0} (m k : ℕ) (xs : List X) → k < m → slice_get (take m xs) k ≡ slice_get xs k
get_take zero k xs l = absurd (omega arith)
get_take (suc m) k [] l = refl
get_take (suc m) zero (x ∷ xs) l = refl
get_take (suc m) (suc k) (x ∷ xs) l = get_take m k xs (omega (arith, l))

past_take : {X : Type 0} (m k : ℕ) (xs : List X) → m ≤ k → slice_get (take m xs) k ≡ None
past_take zero k xs l = refl
past_take (suc m) k [] l = refl
past_take (suc m) zero (x ∷ xs) l = absurd (omega arith)
past_take (suc m) (suc k) (x ∷ xs) l = past_take m k xs (omega (arith, l))

get_drop : {X : Type 0} (m k i : ℕ) (xs : List X) → i ≡ m + k → slice_get (drop m xs) k ≡ slice_get xs i
get_drop zero k i xs e = let same : k ≡ i = omega (arith, e) in ap (slice_get xs) same
get_drop (suc m) k i [] e = refl
get_drop (suc m) k zero (x ∷ xs) e = absurd (omega (arith, e))
get_drop (suc m) k (suc i) (x ∷ xs) e = get_drop m k i xs (omega (arith, e))

-- item k of row i, where there is one
abbrev pub in_row : {X : Type 0} → List (List X) → ℕ → ℕ → Option X
in_row rows i k = option_map_or (λ row. slice_get row k) (slice_get rows i) None

-- the item at a spot that is counted from start
abbrev at_spot : {X : Type 0} → ℕ → List X → Option ℕ → Option X
at_spot start xs spot = option_map_or (λ j. slice_get xs (j - start)) spot None

cut_get : {X : Type 0} (start : ℕ) (ends : List ℕ) (i k : ℕ) (xs : List X) → Rises start ends → in_row (cut start ends xs) i k ≡ at_spot start xs (spot_from start ends i k)
unfolding cut spot_from Rises
cut_get start [] i k xs r = refl
cut_get start (end ∷ ends) zero k xs r = here (nat_lt k (end - start)) refl
  where
    here : (b : Bool) → nat_lt k (end - start) ≡ b → slice_get (take (end - start) xs) k ≡ at_spot start xs (when b (start + k))
    here true e = let at : start + k - start ≡ k = omega arith in get_take (end - start) k xs (ltb-true k (end - start) e) ∙ sym (ap (slice_get xs) at)
    here false e = past_take (end - start) k xs (ltb-false k (end - start) e)
cut_get start (end ∷ ends) (suc i) k xs r = cut_get end ends i k (drop (end - start) xs) r.1 ∙ here (spot_from end ends i k) refl
  where
    here : (o : Option ℕ) → spot_from end ends i k ≡ o → at_spot end (drop (end - start) xs) o ≡ at_spot start xs o
    here None e = refl
    here (Some j) e =
        let low : end ≤ j = spot_low end ends i k j r.1 e in
        let first : start ≤ end = r.0 in
        get_drop (end - start) (j - end) (j - start) xs (omega (arith, low, first))

pub cut_got : {X : Type 0} (ends : List ℕ) (n k : ℕ) (xs : List X) → Rises 0 ends → option_map_or (λ row. slice_get row k) (numbered (cut 0 ends xs) n) None ≡ option_map_or (λ j. slice_get xs j) (spot_of ends n k) None
cut_got ends zero k xs r = refl
cut_got ends (suc i) k xs r = cut_get 0 ends i k xs r ∙ here (spot_from 0 ends i k)
  where
    here : (o : Option ℕ) → at_spot 0 xs o ≡ option_map_or (λ j. slice_get xs j) o None
    here None = refl
    here (Some j) = let at : j - 0 ≡ j = omega arith in ap (slice_get xs) at

-- ---- a whole row

rises_high : (start : ℕ) (ends : List ℕ) (last : ℕ) → RisesTo start ends last → start ≤ last
unfolding RisesTo
rises_high start [] last r = omega (arith, r)
rises_high start (end ∷ ends) last r =
    let first : start ≤ end = r.0 in
    let more : end ≤ last = rises_high end ends last r.1 in
    omega (arith, first, more)

-- row i goes from where the one before ends to where it ends
pub record IsRow {X : Type 0} (rows : List (List X)) (items : List X) (first begin end i : ℕ) : Type 0 where
  pub low : first ≤ begin
  pub rises : begin ≤ end
  pub within : end ≤ first + length items
  pub is : slice_get rows i ≡ Some (take (end - begin) (drop (begin - first) items))

pub row_is : {X : Type 0} (start : ℕ) (ends : List ℕ) (last i : ℕ) (xs : List X) → RisesTo start ends last → last ≡ start + length xs → i < length ends
    → IsRow (cut start ends xs) xs start (get_or (start ∷ ends) i 0) (get_or ends i 0) i
unfolding cut RisesTo
row_is start [] last i xs r e l = absurd (omega arith)
row_is start (end ∷ ends) last zero xs r e l =
    let rising : start ≤ end = r.0 in
    let high : end ≤ last = rises_high end ends last r.1 in
    let none : 0 ≡ start - start = omega arith in
    record { low = omega arith; rises = rising; within = omega (arith, high, e); is = ap (λ k. Some (take (end - start) (drop k xs))) none }
row_is start (end ∷ ends) last (suc i) xs r e l =
    let rising : start ≤ end = r.0 in
    let high : end ≤ last = rises_high end ends last r.1 in
    let inside : end - start ≤ length xs = omega (arith, rising, high, e) in
    let left : length (drop (end - start) xs) ≡ length xs - (end - start) = length-drop (end - start) xs in
    let rest = row_is end ends last i (drop (end - start) xs) r.1 (omega (arith, rising, inside, e, left)) (omega (arith, l)) in
    let begin : ℕ = get_or (end ∷ ends) i 0 in
    let far : begin - start ≡ (end - start) + (begin - end) = omega (arith, rising, rest.low) in
    record {
      low = omega (arith, rising, rest.low);
      rises = rest.rises;
      within = omega (arith, rising, inside, left, rest.within);
      is = rest.is ∙ ap (λ ys. Some (take (get_or ends i 0 - begin) ys)) (drop_drop (end - start) (begin - end) (begin - start) xs far);
    }

-- ---- one more row

pub rises : (start : ℕ) (ends : List ℕ) (last : ℕ) → RisesTo start ends last → Rises start ends
unfolding RisesTo Rises
rises start [] last r = tt
rises start (end ∷ ends) last r = (r.0, rises end ends last r.1)

pub rises_more : (start : ℕ) (ends : List ℕ) (last next : ℕ) → RisesTo start ends last → last ≤ next → RisesTo start (ends ++ next ∷ []) next
unfolding RisesTo
rises_more start [] last next r l = (omega (arith, r, l), refl)
rises_more start (end ∷ ends) last next r l = (r.0, rises_more end ends last next r.1 l)

take_front : {X : Type 0} (m : ℕ) (xs ys : List X) → m ≤ length xs → take m (xs ++ ys) ≡ take m xs
take_front zero xs ys l = refl
take_front (suc m) [] ys l = absurd (omega arith)
take_front (suc m) (x ∷ xs) ys l = ap (λ zs. x ∷ zs) (take_front m xs ys (omega (arith, l)))

drop_front : {X : Type 0} (m : ℕ) (xs ys : List X) → m ≤ length xs → drop m (xs ++ ys) ≡ drop m xs ++ ys
drop_front zero xs ys l = refl
drop_front (suc m) [] ys l = absurd (omega arith)
drop_front (suc m) (x ∷ xs) ys l = drop_front m xs ys (omega (arith, l))

take_whole : {X : Type 0} (m : ℕ) (xs : List X) → m ≡ length xs → take m xs ≡ xs
take_whole zero [] e = refl
take_whole zero (x ∷ xs) e = absurd (omega (arith, e))
take_whole (suc m) [] e = absurd (omega (arith, e))
take_whole (suc m) (x ∷ xs) e = ap (λ ys. x ∷ ys) (take_whole m xs (omega (arith, e)))

cut_more : {X : Type 0} (start : ℕ) (ends : List ℕ) (last next : ℕ) (xs row : List X) → RisesTo start ends last → last ≡ start + length xs → next ≡ last + length row → cut start (ends ++ next ∷ []) (xs ++ row) ≡ cut start ends xs ++ row ∷ []
unfolding cut RisesTo
cut_more start [] last next [] row r e n = let size : next - start ≡ length row = omega (arith, r, e, n) in ap (λ ys. ys ∷ []) (take_whole (next - start) row size)
cut_more start [] last next (x ∷ xs) row r e n = absurd (omega (arith, r, e))
cut_more start (end ∷ ends) last next xs row r e n =
    let first : start ≤ end = r.0 in
    let high : end ≤ last = rises_high end ends last r.1 in
    let inside : end - start ≤ length xs = omega (arith, first, high, e) in
    let left : last ≡ end + length (drop (end - start) xs) = omega (arith, first, high, e, length-drop (end - start) xs) in
    (λ i. take_front (end - start) xs row inside i ∷ cut end (ends ++ next ∷ []) (drop_front (end - start) xs row inside i))
    ∙ ap (λ rows. take (end - start) xs ∷ rows) (cut_more end ends last next (drop (end - start) xs) row r.1 left n)

-- rows that are made one after another
pub record Cut {X : Type 0} (rows : List (List X)) (ends : List ℕ) (items : List X) : Type 0 where
  pub ends_there : RisesTo 0 ends (length items)
  pub rows_are : cut 0 ends items ≡ rows

pub cut_first : {X : Type 0} → Cut {X = X} [] [] []
unfolding cut RisesTo
cut_first = record { ends_there = refl; rows_are = refl }

pub cut_next : {X : Type 0} (rows : List (List X)) (ends newer : List ℕ) (items new row : List X) (end : ℕ) → Cut rows ends items → new ≡ items ++ row → end ≡ length new → newer ≡ ends ++ end ∷ [] → Cut (rows ++ row ∷ []) newer new
cut_next rows ends newer items new row end c n e w =
    let size : length new ≡ length items + length row = ap length n ∙ length-append items row in
    let low : length items ≤ length new = omega (arith, size) in
    let long : length new ≡ length items + length row = size in
    let none : length items ≡ 0 + length items = omega arith in
    record {
      ends_there = subst (λ es. RisesTo 0 es (length new)) (sym (w ∙ ap (λ x. ends ++ x ∷ []) e)) (rises_more 0 ends (length items) (length new) c.ends_there low);
      rows_are = (λ i. cut 0 ((w ∙ ap (λ x. ends ++ x ∷ []) e) i) (n i)) ∙ cut_more 0 ends (length items) (length new) items row c.ends_there none long ∙ ap (λ rs. rs ++ row ∷ []) c.rows_are;
    }

pub made_first : {X : Type 0} (ends : List ℕ) (items : List X) → ends ≡ [] → items ≡ [] → Cut [] ends items
made_first ends items e f = subst (λ es. Cut [] es items) (sym e) (subst (λ xs. Cut [] [] xs) (sym f) cut_first)

-- the row of one message more
pub made_more : {X : Type 0} (f : ℕ → List X) (before : ℕ) (ends newer : List ℕ) (items new : List X) (end : ℕ) → Cut (map f (range_with_len 1 before)) ends items → new ≡ items ++ f (before + 1) → end ≡ length new → newer ≡ ends ++ end ∷ [] → Cut (map f (range_with_len 1 (before + 1))) newer new
made_more f before ends newer items new end c n e w =
    subst (λ rows. Cut rows newer new) (sym (map-range_with_len_more f 1 before (before + 1) (omega arith)))
    (cut_next (map f (range_with_len 1 before)) ends newer items new (f (before + 1)) end c n e w)

-- ---- a row by its number, which counts from 1

pub no_row : {X : Type 0} (ends : List ℕ) (n : ℕ) (xs : List X) → n ≡ 0 → [] ≡ row_in (cut 0 ends xs) n
no_row ends n xs e = sym (ap (row_in (cut 0 ends xs)) e)

cut_length : {X : Type 0} (start : ℕ) (ends : List ℕ) (xs : List X) → length (cut start ends xs) ≡ length ends
unfolding cut
cut_length start [] xs = refl
cut_length start (end ∷ ends) xs = ap suc (cut_length end ends (drop (end - start) xs))

pub past_row : {X : Type 0} (ends : List ℕ) (n : ℕ) (xs : List X) → length ends < n → [] ≡ row_in (cut 0 ends xs) n
past_row ends zero xs l = refl
past_row ends (suc i) xs l = sym (ap (λ o. unwrap_or o []) (slice_get_past (cut 0 ends xs) i (omega (arith, l, cut_length 0 ends xs))))

-- where a row begins and ends, and what it has
pub record Row {X : Type 0} (ends : List ℕ) (xs : List X) (n begin end : ℕ) : Type 0 where
  pub rises : begin ≤ end
  pub within : end ≤ length xs
  pub is : take (end - begin) (drop begin xs) ≡ row_in (cut 0 ends xs) n

pub row_at : {X : Type 0} (ends : List ℕ) (xs : List X) (n begin end : ℕ) → RisesTo 0 ends (length xs) → (n ≡ 0 → ⊥) → n ≤ length ends
    → begin ≡ get_or (0 ∷ ends) (n - 1) 0 → end ≡ get_or ends (n - 1) 0 → Row ends xs n begin end
row_at ends xs zero begin end r ne l b e = absurd (ne refl)
row_at ends xs (suc i) begin end r ne l b e =
    let here : suc i - 1 ≡ i = omega arith in
    let first : begin ≡ get_or (0 ∷ ends) i 0 = b ∙ ap (λ j. get_or (0 ∷ ends) j 0) here in
    let last : end ≡ get_or ends i 0 = e ∙ ap (λ j. get_or ends j 0) here in
    let row = row_is 0 ends (length xs) i xs r (omega arith) (omega (arith, l)) in
    let from : get_or (0 ∷ ends) i 0 - 0 ≡ begin = omega (arith, first) in
    record {
      rises = omega (arith, first, last, row.rises);
      within = omega (arith, last, row.within);
      is = (λ j. take (last j - first j) (drop (sym from j) xs)) ∙ sym (ap (λ o. unwrap_or o []) row.is);
    }
