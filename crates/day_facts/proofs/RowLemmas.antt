-- Rows of one list: what a change of an item does to them, and what is counted of them.
use Rattle.std.proofs.Common.{◌≡◌, ◌∙◌, ℕ, zero, suc, ◌+◌, ◌-◌, ◌≤◌, ◌<◌, Bool, true, false, not, List, [], ◌∷◌, ◌++◌, Option, Some, None, length, take, drop, refl, sym, ap, subst, arith, map, if◌then◌else◌}
use Rattle.std.specs.Prelude.{nat_eq, slice_get, slice_set, slice_index_or, count_by}
use Rattle.std.specs.List.{list_all, range_with_len}
use Rattle.std.specs.Option.{option_map_or}
use Rattle.std.proofs.lemmas.Bool.{ltb-true, ne_eqb}
use Rattle.std.proofs.lemmas.List.{drop-take, length-map, length-take-le, take-take, take_more_set}
use Rattle.std.proofs.lemmas.List.Sums.{sum_by-cons}
use Rattle.std.proofs.lemmas.List.FromFn.{sum_by-map-range_with_len_more}
use Rattle.machine.specs.Words.{numbered}
use Rattle.machine.proofs.Lists.{row_pushed}
use Rattle.day_facts.specs.Lists.{at, change_at, changed}
use Rattle.rule_book.specs.Rows.{Rises, RisesTo, cut, spot_from, spot_of}
use Rattle.rule_book.proofs.RowLemmas.{cut_got, cut_next, in_row, rises, spot_low, when_some}
use Rattle.day_facts.specs.Rows.{AreHeld, IsCounted, count_in, flag_at, none_in, place_at}

-- ---- a change of one item

take_in : {X : Type 0} (m k : ℕ) (f : X → X) (xs : List X) → k < m → take m (change_at k f xs) ≡ change_at k f (take m xs)
take_in zero k f xs l = absurd (omega arith)
take_in (suc m) k f [] l = refl
take_in (suc m) zero f (x ∷ xs) l = refl
take_in (suc m) (suc k) f (x ∷ xs) l = ap (λ ys. x ∷ ys) (take_in m k f xs (omega (arith, l)))

drop_in : {X : Type 0} (m k : ℕ) (f : X → X) (xs : List X) → k < m → drop m (change_at k f xs) ≡ drop m xs
drop_in zero k f xs l = absurd (omega arith)
drop_in (suc m) k f [] l = refl
drop_in (suc m) zero f (x ∷ xs) l = refl
drop_in (suc m) (suc k) f (x ∷ xs) l = drop_in m k f xs (omega (arith, l))

take_out : {X : Type 0} (m k i : ℕ) (f : X → X) (xs : List X) → i ≡ m + k → take m (change_at i f xs) ≡ take m xs
take_out zero k i f xs e = refl
take_out (suc m) k i f [] e = refl
take_out (suc m) k zero f (x ∷ xs) e = absurd (omega (arith, e))
take_out (suc m) k (suc i) f (x ∷ xs) e = ap (λ ys. x ∷ ys) (take_out m k i f xs (omega (arith, e)))

drop_out : {X : Type 0} (m k i : ℕ) (f : X → X) (xs : List X) → i ≡ m + k → drop m (change_at i f xs) ≡ change_at k f (drop m xs)
drop_out zero k i f xs e = let same : i ≡ k = omega (arith, e) in ap (λ j. change_at j f xs) same
drop_out (suc m) k i f [] e = refl
drop_out (suc m) k zero f (x ∷ xs) e = absurd (omega (arith, e))
drop_out (suc m) k (suc i) f (x ∷ xs) e = drop_out m k i f xs (omega (arith, e))

cut_change : {X : Type 0} (start : ℕ) (ends : List ℕ) (i k j at : ℕ) (f : X → X) (xs : List X) → Rises start ends → spot_from start ends i k ≡ Some j → j ≡ start + at → cut start ends (change_at at f xs) ≡ change_at i (change_at k f) (cut start ends xs)
unfolding cut spot_from Rises
cut_change start [] i k j at f xs r s e = cc
cut_change start (end ∷ ends) zero k j at f xs r s e =
    let parts = when_some _ _ j s in
    let inside : k < end - start = ltb-true k (end - start) parts.0 in
    let same : start + k ≡ j = parts.1 in
    let here : at ≡ k = omega (arith, same, e) in
    ap (λ y. cut start (end ∷ ends) (change_at y f xs)) here
    ∙ (λ y. take_in (end - start) k f xs inside y ∷ cut end ends (drop_in (end - start) k f xs inside y))
cut_change start (end ∷ ends) (suc i) k j at f xs r s e =
    let low : end ≤ j = spot_low end ends i k j r.1 s in
    let first : start ≤ end = r.0 in
    let past : at ≡ (end - start) + (j - end) = omega (arith, low, first, e) in
    let rest : j ≡ end + (j - end) = omega (arith, low) in
    (λ y. take_out (end - start) (j - end) at f xs past y ∷ cut end ends (drop_out (end - start) (j - end) at f xs past y))
    ∙ ap (λ rows. take (end - start) xs ∷ rows) (cut_change end ends i k j (j - end) f (drop (end - start) xs) r.1 s rest)

pub cut_changed : {X : Type 0} (ends : List ℕ) (n k j : ℕ) (f : X → X) (xs : List X) → Rises 0 ends → Some j ≡ spot_of ends n k → cut 0 ends (change_at j f xs) ≡ changed n (change_at k f) (cut 0 ends xs)
cut_changed ends zero k j f xs r s = cc
cut_changed ends (suc i) k j f xs r s = cut_change 0 ends i k j j f xs r (sym s) (omega arith)

-- ---- places

pub placed_in : (ends : List ℕ) (items : List (Option ℕ)) (n k : ℕ) (o : Option ℕ) → Rises 0 ends → o ≡ spot_of ends n k → option_map_or (at items) o None ≡ place_at (cut 0 ends items) n k
placed_in ends items n k o r s =
    ap (λ x. option_map_or (at items) x None) s
    ∙ through (spot_of ends n k) ∙ ap (λ x. option_map_or (λ place. place) x None) (sym (cut_got ends n k items r)) ∙ sym (rows (numbered (cut 0 ends items) n))
  where
    through : (x : Option ℕ) → option_map_or (at items) x None ≡ option_map_or (λ place. place) (option_map_or (λ j. slice_get items j) x None) None
    through None = refl
    through (Some j) = refl

    rows : (x : Option (List (Option ℕ))) → option_map_or (λ row. at row k) x None ≡ option_map_or (λ place. place) (option_map_or (λ row. slice_get row k) x None) None
    rows None = refl
    rows (Some row) = refl

-- where there is no such item nothing changes
pub none_changed : {X : Type 0} (ends : List ℕ) (n k : ℕ) (f : X → X) (xs : List X) → Rises 0 ends → None ≡ spot_of ends n k → cut 0 ends xs ≡ changed n (change_at k f) (cut 0 ends xs)
none_changed {X = X} ends n k f xs r s = by_number n (cut_got ends n k xs r ∙ ap (λ o. option_map_or (λ j. slice_get xs j) o None) (sym s))
  where
    past : (row : List X) (k : ℕ) → slice_get row k ≡ None → row ≡ change_at k f row
    past [] k e = refl
    past (x ∷ row) zero e = cc
    past (x ∷ row) (suc k) e = ap (λ ys. x ∷ ys) (past row k e)

    by_index : (rows : List (List X)) (i : ℕ) → in_row rows i k ≡ None → rows ≡ change_at i (change_at k f) rows
    by_index [] i e = refl
    by_index (row ∷ rows) zero e = ap (λ y. y ∷ rows) (past row k e)
    by_index (row ∷ rows) (suc i) e = ap (λ ys. row ∷ ys) (by_index rows i e)

    by_number : (m : ℕ) → option_map_or (λ row. slice_get row k) (numbered (cut 0 ends xs) m) None ≡ None → cut 0 ends xs ≡ changed m (change_at k f) (cut 0 ends xs)
    by_number zero e = refl
    by_number (suc i) e = by_index (cut 0 ends xs) i e

-- ---- flags

abbrev or_false : Option Bool → Bool
or_false o = option_map_or (λ flag. flag) o false

index_is : (row : List Bool) (k : ℕ) → slice_index_or row k false ≡ or_false (slice_get row k)
index_is [] k = refl
index_is (x ∷ row) zero = refl
index_is (x ∷ row) (suc k) = index_is row k

pub flagged_in : (ends : List ℕ) (items : List Bool) (n k : ℕ) (o : Option ℕ) → Rises 0 ends → o ≡ spot_of ends n k → option_map_or (λ i. slice_index_or items i false) o false ≡ flag_at (cut 0 ends items) n k
flagged_in ends items n k o r s =
    ap (λ x. option_map_or (λ i. slice_index_or items i false) x false) s
    ∙ through (spot_of ends n k) ∙ ap or_false (sym (cut_got ends n k items r)) ∙ sym (rows (numbered (cut 0 ends items) n))
  where
    through : (x : Option ℕ) → option_map_or (λ i. slice_index_or items i false) x false ≡ or_false (option_map_or (λ j. slice_get items j) x None)
    through None = refl
    through (Some j) = index_is items j

    rows : (x : Option (List Bool)) → option_map_or (λ row. slice_index_or row k false) x false ≡ or_false (option_map_or (λ row. slice_get row k) x None)
    rows None = refl
    rows (Some row) = index_is row k

set_change : (k : ℕ) (row : List Bool) → change_at k (λ flag. false) row ≡ slice_set row k false
set_change k [] = refl
set_change zero (x ∷ row) = refl
set_change (suc k) (x ∷ row) = ap (λ ys. x ∷ ys) (set_change k row)

pub changed_same : {X : Type 0} (n : ℕ) (f g : X → X) (xs : List X) → ((x : X) → f x ≡ g x) → changed n f xs ≡ changed n g xs
changed_same {X = X} zero f g xs h = refl
changed_same {X = X} (suc i) f g xs h = here i xs
  where
    here : (i : ℕ) (xs : List X) → change_at i f xs ≡ change_at i g xs
    here i [] = refl
    here zero (x ∷ xs) = ap (λ y. y ∷ xs) (h x)
    here (suc i) (x ∷ xs) = ap (λ ys. x ∷ ys) (here i xs)

-- where nothing of an item changes
pub changed_id : {X : Type 0} (n : ℕ) (f : X → X) (xs : List X) → ((x : X) → f x ≡ x) → xs ≡ changed n f xs
changed_id {X = X} zero f xs h = refl
changed_id {X = X} (suc i) f xs h = here i xs
  where
    here : (i : ℕ) (xs : List X) → xs ≡ change_at i f xs
    here i [] = refl
    here zero (x ∷ xs) = ap (λ y. y ∷ xs) (sym (h x))
    here (suc i) (x ∷ xs) = ap (λ ys. x ∷ ys) (here i xs)

-- one change after another
pub changed_twice : {X : Type 0} (n : ℕ) (f g : X → X) (xs : List X) → changed n g (changed n f xs) ≡ changed n (λ x. g (f x)) xs
changed_twice {X = X} zero f g xs = refl
changed_twice {X = X} (suc i) f g xs = here i xs
  where
    here : (i : ℕ) (xs : List X) → change_at i g (change_at i f xs) ≡ change_at i (λ x. g (f x)) xs
    here i [] = refl
    here zero (x ∷ xs) = refl
    here (suc i) (x ∷ xs) = ap (λ ys. x ∷ ys) (here i xs)

-- a row that changes step by step
pub rows_step : {X : Type 0} (n : ℕ) (f step g : X → X) (first old new : List X) → old ≡ changed n f first → new ≡ changed n step old → ((row : X) → step (f row) ≡ g row) → new ≡ changed n g first
rows_step n f step g first old new h e same = e ∙ ap (changed n step) h ∙ changed_twice n f step first ∙ changed_same n _ _ first same

pub rows_same : {X : Type 0} (n : ℕ) (f g : X → X) (first old new : List X) → old ≡ changed n f first → new ≡ old → ((row : X) → f row ≡ g row) → new ≡ changed n g first
rows_same n f g first old new h e same = e ∙ h ∙ changed_same n _ _ first same

pub flags_none : (ends : List ℕ) (n k : ℕ) (xs : List Bool) → Rises 0 ends → None ≡ spot_of ends n k → cut 0 ends xs ≡ changed n (λ row. slice_set row k false) (cut 0 ends xs)
flags_none ends n k xs r s = none_changed ends n k (λ flag. false) xs r s ∙ changed_same n _ _ (cut 0 ends xs) (set_change k)

pub flags_changed : (ends : List ℕ) (n k j : ℕ) (xs : List Bool) → Rises 0 ends → Some j ≡ spot_of ends n k → cut 0 ends (change_at j (λ flag. false) xs) ≡ changed n (λ row. slice_set row k false) (cut 0 ends xs)
flags_changed ends n k j xs r s = cut_changed ends n k j (λ flag. false) xs r s ∙ changed_same n _ _ (cut 0 ends xs) (set_change k)

fallen_same : (row : List Bool) (k : ℕ) → slice_index_or row k false ≡ false → row ≡ slice_set row k false
fallen_same [] k e = refl
fallen_same (x ∷ row) zero e = ap (λ y. y ∷ row) e
fallen_same (x ∷ row) (suc k) e = ap (λ ys. x ∷ ys) (fallen_same row k e)

-- a flag that doesn't stand
pub flags_low : (rows : List (List Bool)) (n k : ℕ) → flag_at rows n k ≡ false → rows ≡ changed n (λ row. slice_set row k false) rows
flags_low rows zero k e = refl
flags_low rows (suc i) k e = here rows i e
  where
    here : (rows : List (List Bool)) (i : ℕ) → option_map_or (λ row. slice_index_or row k false) (slice_get rows i) false ≡ false → rows ≡ change_at i (λ row. slice_set row k false) rows
    here [] i e = refl
    here (row ∷ rows) zero e = ap (λ y. y ∷ rows) (fallen_same row k e)
    here (row ∷ rows) (suc i) e = ap (λ ys. row ∷ ys) (here rows i e)

-- ---- how many stand

abbrev standing : List Bool → ℕ
standing row = count_by (λ flag. flag) row

abbrev unit : Bool → ℕ
unit b = if b then 1 else 0

standing_cons : (b : Bool) (row : List Bool) → standing (b ∷ row) ≡ unit b + standing row
standing_cons b row = sum_by-cons unit b row

one_fewer : (row : List Bool) (k : ℕ) → slice_index_or row k false ≡ true → standing (slice_set row k false) + 1 ≡ standing row
one_fewer [] k e = cc
one_fewer (b ∷ row) zero e =
    let now : standing (false ∷ row) ≡ 0 + standing row = standing_cons false row in
    let before : standing (b ∷ row) ≡ 1 + standing row = standing_cons b row ∙ ap (λ x. unit x + standing row) e in
    omega (arith, now, before)
one_fewer (b ∷ row) (suc k) e =
    let now : standing (b ∷ slice_set row k false) ≡ unit b + standing (slice_set row k false) = standing_cons b (slice_set row k false) in
    let before : standing (b ∷ row) ≡ unit b + standing row = standing_cons b row in
    let more : standing (slice_set row k false) + 1 ≡ standing row = one_fewer row k e in
    omega (arith, now, before, more)

counts_change : (rows : List (List Bool)) (i k : ℕ) → option_map_or (λ row. slice_index_or row k false) (slice_get rows i) false ≡ true → change_at i (λ count. count - 1) (map standing rows) ≡ map standing (change_at i (λ row. slice_set row k false) rows)
counts_change [] i k e = cc
counts_change (row ∷ rows) zero k e =
    let fewer : standing (slice_set row k false) + 1 ≡ standing row = one_fewer row k e in
    let now : standing row - 1 ≡ standing (slice_set row k false) = omega (arith, fewer) in
    ap (λ c. c ∷ map standing rows) now
counts_change (row ∷ rows) (suc i) k e = ap (λ cs. standing row ∷ cs) (counts_change rows i k e)

counts_changed : (rows : List (List Bool)) (n k : ℕ) → flag_at rows n k ≡ true → changed n (λ count. count - 1) (map standing rows) ≡ map standing (changed n (λ row. slice_set row k false) rows)
counts_changed rows zero k e = cc
counts_changed rows (suc i) k e = counts_change rows i k e

pub counted_less : (ends : List ℕ) (old new : List Bool) (before after : List ℕ) (n k j : ℕ) → IsCounted ends old before → Some j ≡ spot_of ends n k → slice_index_or old j false ≡ true → new ≡ change_at j (λ flag. false) old → after ≡ changed n (λ count. count - 1) before → IsCounted ends new after
counted_less ends old new before after n k j c s stood changes fewer = record {
  rises = c.rises;
  counted =
      fewer ∙ ap (changed n (λ count. count - 1)) c.counted
      ∙ counts_changed (cut 0 ends old) n k (sym (flagged_in ends old n k (Some j) c.rises s) ∙ stood)
      ∙ ap (map standing) (sym (ap (cut 0 ends) changes ∙ flags_changed ends n k j old c.rises s));
}

get_counts : (rows : List (List Bool)) (i : ℕ) → option_map_or (λ c. c) (slice_get (map standing rows) i) 0 ≡ option_map_or standing (slice_get rows i) 0
get_counts [] i = refl
get_counts (row ∷ rows) zero = refl
get_counts (row ∷ rows) (suc i) = get_counts rows i

pub counted_at : (ends : List ℕ) (items : List Bool) (counts : List ℕ) (n : ℕ) → IsCounted ends items counts → option_map_or (λ c. c) (numbered counts n) 0 ≡ count_in (cut 0 ends items) n
counted_at ends items counts zero c = refl
counted_at ends items counts (suc i) c = ap (λ xs. option_map_or (λ x. x) (slice_get xs i) 0) c.counted ∙ get_counts (cut 0 ends items) i

none_standing : (row : List Bool) → nat_eq (standing row) 0 ≡ list_all not row
none_standing [] = refl
none_standing (true ∷ row) = ne_eqb (standing (true ∷ row)) 0 (λ z. let e : standing (true ∷ row) ≡ 1 + standing row = standing_cons true row in omega (arith, z, e))
none_standing (false ∷ row) = ap (λ c. nat_eq c 0) (standing_cons false row ∙ zero_plus (standing row)) ∙ none_standing row
  where
    zero_plus : (c : ℕ) → 0 + c ≡ c
    zero_plus c = omega arith

pub none_is : (rows : List (List Bool)) (n : ℕ) → nat_eq (count_in rows n) 0 ≡ none_in rows n
none_is rows n = here (numbered rows n)
  where
    here : (o : Option (List Bool)) → nat_eq (option_map_or standing o 0) 0 ≡ option_map_or (list_all not) o true
    here None = refl
    here (Some row) = none_standing row

-- ---- one more row, where free flags were

high : (start : ℕ) (ends : List ℕ) (last : ℕ) → RisesTo start ends last → start ≤ last
unfolding RisesTo
high start [] last r = omega (arith, r)
high start (end ∷ ends) last r =
    let first : start ≤ end = r.0 in
    let more : end ≤ last = high end ends last r.1 in
    omega (arith, first, more)

-- rows look at no item from where they end on
cut_front : {X : Type 0} (start : ℕ) (ends : List ℕ) (last size : ℕ) (xs : List X) → RisesTo start ends last → size ≡ last - start → cut start ends (take size xs) ≡ cut start ends xs
unfolding cut RisesTo
cut_front start [] last size xs r e = refl
cut_front start (end ∷ ends) last size xs r e =
    let first : start ≤ end = r.0 in
    let far : end ≤ last = high end ends last r.1 in
    let split : size ≡ (end - start) + (last - end) = omega (arith, first, far, e) in
    let rest : last - end ≡ last - end = refl in
    (λ i. take-take (end - start) size xs (omega (arith, first, far, e)) i ∷ cut end ends (drop (end - start) (take (split i) xs)))
    ∙ (ap (λ ys. take (end - start) xs ∷ cut end ends ys) (drop-take (end - start) (last - end) xs)
    ∙ ap (λ rows. take (end - start) xs ∷ rows) (cut_front end ends last (last - end) (drop (end - start) xs) r.1 rest))

pub record Grown {X : Type 0} (rows : List (List X)) (ends : List ℕ) (items row : List X) (last : ℕ) : Type 0 where
  pub ends_there : RisesTo 0 ends last
  pub rows_are : cut 0 ends items ≡ rows ++ row ∷ []

pub cut_grown : {X : Type 0} (ends newer : List ℕ) (last next : ℕ) (old new row : List X) → RisesTo 0 ends last → last ≤ length old → next ≤ length new → newer ≡ ends ++ next ∷ [] → take next new ≡ take last old ++ row
    → Grown (cut 0 ends old) newer new row next
cut_grown ends newer last next old new row r l n w f =
    let front : length (take last old) ≡ last = length-take-le last old l in
    let size : length (take next new) ≡ next = length-take-le next new n in
    let made = cut_next (cut 0 ends (take last old)) ends newer (take last old) (take next new) row next (record { ends_there = subst (RisesTo 0 ends) (sym front) r; rows_are = refl }) f (sym size) w in
    let rises : RisesTo 0 newer next = subst (RisesTo 0 newer) size made.ends_there in
    record {
      ends_there = rises;
      rows_are =
          sym (cut_front 0 newer next next new rises (omega arith))
          ∙ (made.rows_are ∙ ap (λ rows. rows ++ row ∷ []) (cut_front 0 ends last last old r (omega arith)));
    }

map_more : (rows : List (List Bool)) (row : List Bool) → map standing rows ++ standing row ∷ [] ≡ map standing (rows ++ row ∷ [])
map_more [] row = refl
map_more (x ∷ rows) row = ap (λ cs. standing x ∷ cs) (map_more rows row)

pub counted_grown : (ends newer : List ℕ) (last next : ℕ) (old new row : List Bool) (counts more : List ℕ) (count : ℕ) → IsCounted ends old counts → Grown (cut 0 ends old) newer new row next → count ≡ standing row → more ≡ counts ++ count ∷ [] → IsCounted newer new more
counted_grown ends newer last next old new row counts more count c g q m = record {
  rises = rises 0 newer next g.ends_there;
  counted = m ∙ ((λ i. c.counted i ++ q i ∷ []) ∙ (map_more (cut 0 ends old) row ∙ ap (map standing) (sym g.rows_are)));
}

rows_length : (start : ℕ) (ends : List ℕ) (xs : List Bool) → length (cut start ends xs) ≡ length ends
unfolding cut
rows_length start [] xs = refl
rows_length start (end ∷ ends) xs = ap suc (rows_length end ends (drop (end - start) xs))

-- a count for each row
pub count_each : (ends : List ℕ) (flags : List Bool) (counts : List ℕ) → IsCounted ends flags counts → length counts ≡ length ends
count_each ends flags counts c = ap length c.counted ∙ (length-map (cut 0 ends flags) standing ∙ rows_length 0 ends flags)

-- what holds of flags with one row more
pub held_more : (ends newer : List ℕ) (old new row : List Bool) (counts more : List ℕ) (bound free left size end start count rooms others next_rooms next_others : ℕ) → AreHeld ends old counts free rooms others
    → bound ≡ length old → size ≡ length row → size ≤ free → left ≡ free - size → start ≡ bound - free → end ≡ bound - left → take (start + size) new ≡ take start old ++ row → length new ≡ length old
    → newer ≡ ends ++ end ∷ [] → count ≡ standing row → more ≡ counts ++ count ∷ [] → next_rooms ≡ rooms → next_others ≡ others → AreHeld newer new more left next_rooms next_others × (cut 0 newer new ≡ cut 0 ends old ++ row ∷ [])
held_more ends newer old new row counts more bound free left size end start count rooms others next_rooms next_others h b z few l s e front same w q m ra rb =
    let within = h.within in
    let began : length old - free ≡ start = omega (arith, b, s) in
    let there : end ≡ start + size = omega (arith, b, s, e, l, few, within) in
    let grown = cut_grown ends newer start end old new row (subst (RisesTo 0 ends) began h.ends_there) (omega (arith, b, s, within)) (omega (arith, b, e, same)) w (ap (λ n. take n new) there ∙ front) in
    let ended : end ≡ length new - left = omega (arith, b, e, same) in (
      record {
        is_counted = counted_grown ends newer start end old new row counts more count h.is_counted grown q m;
        within = omega (arith, l, same, within);
        ends_there = subst (RisesTo 0 newer) ended grown.ends_there;
        room = omega (arith, ra, rb, h.room);
      },
      grown.rows_are,
    )

-- no rows yet
pub none_held : (ends : List ℕ) (flags : List Bool) (counts : List ℕ) (free rooms others : ℕ) → ends ≡ [] → counts ≡ [] → length flags ≡ free → rooms ≤ others → AreHeld ends flags counts free rooms others × (cut 0 ends flags ≡ [])
unfolding cut Rises RisesTo
none_held [] flags [] free rooms others e c f r = (record { is_counted = record { rises = tt; counted = refl }; within = omega (arith, f); ends_there = omega (arith, f); room = r }, refl)
none_held [] flags (x ∷ counts) free rooms others e c f r = cc
none_held (x ∷ ends) flags counts free rooms others e c f r = cc

-- flags in which one falls
pub held_less : (ends : List ℕ) (old new : List Bool) (counts less : List ℕ) (free rooms others next_rooms next_others : ℕ) → AreHeld ends old counts free rooms others → IsCounted ends new less → length new ≡ length old → next_rooms ≡ rooms → next_others ≡ others
    → AreHeld ends new less free next_rooms next_others
held_less ends old new counts less free rooms others next_rooms next_others h c same ra rb =
    let size : length old - free ≡ length new - free = omega (arith, same) in
    record {
      is_counted = c;
      within = omega (arith, h.within, same);
      ends_there = subst (RisesTo 0 ends) size h.ends_there;
      room = omega (arith, h.room, ra, rb);
    }

-- one more flag is put after a row
pub flag_put : (f : ℕ → Bool) (first old new : List Bool) (start k at : ℕ) (b : Bool) → take (start + k) old ≡ take start first ++ map f (range_with_len 0 k) → at ≡ start + k → at < length old → b ≡ f k → new ≡ slice_set old at b
    → take (start + (k + 1)) new ≡ take start first ++ map f (range_with_len 0 (k + 1))
flag_put f first old new start k at b h e l q n =
    let next : start + (k + 1) ≡ at + 1 = omega (arith, e) in
    let put : take (at + 1) (slice_set old at b) ≡ take at old ++ b ∷ [] = take_more_set old at b l in
    row_pushed f (take start first) (take at old) (take (start + (k + 1)) new) k b (ap (λ j. take j old) e ∙ h) q ((λ i. take (next i) (n i)) ∙ put)

-- a row is counted flag by flag
pub one_more : (f : ℕ → Bool) (k before after : ℕ) (b : Bool) → before ≡ standing (map f (range_with_len 0 k)) → b ≡ f k → after ≡ before + unit b → after ≡ standing (map f (range_with_len 0 (k + 1)))
one_more f k before after b h e a =
    a ∙ (λ i. h i + unit (e i)) ∙ sym (sum_by-map-range_with_len_more unit f 0 k k (let at : 0 + k ≡ k = omega arith in at))

pub few_stand : (f : ℕ → Bool) (len : ℕ) → standing (map f (range_with_len 0 len)) ≤ len
few_stand f zero = omega arith
few_stand f (suc len) =
    let more : standing (map f (range_with_len 0 (len + 1))) ≡ standing (map f (range_with_len 0 len)) + unit (f len) = sum_by-map-range_with_len_more unit f 0 len len (let at : 0 + len ≡ len = omega arith in at) in
    let before : standing (map f (range_with_len 0 len)) ≤ len = few_stand f len in
    let one : unit (f len) ≤ 1 = small (f len) in
    let same : len + 1 ≡ suc len = omega arith in
    let here : standing (map f (range_with_len 0 (len + 1))) ≤ suc len = omega (arith, more, before, one) in
    subst (λ n. standing (map f (range_with_len 0 n)) ≤ suc len) same here
  where
    small : (b : Bool) → unit b ≤ 1
    small true = omega arith
    small false = omega arith

pub at_most_one : (b : Bool) (n : ℕ) → n ≡ unit b → n ≤ 1
at_most_one true n e = omega (arith, e)
at_most_one false n e = omega (arith, e)
