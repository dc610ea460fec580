-- The items of a row, of which the messages are kept.
use Rattle.std.proofs.Common.{◌≡◌, ◌∙◌, ℕ, zero, suc, ◌+◌, ◌-◌, ◌<◌, ◌≤◌, List, [], ◌∷◌, ◌++◌, Some, None, length, map, refl, sym, ap, subst, arith, append_assoc, ◌⊎◌, inl, inr}
use Rattle.std.specs.Prelude.{option_map, slice_get, slice_index_or}
use Rattle.std.specs.List.{range_with_len}
use Rattle.std.proofs.Math.Seq.{get_or-append_seam}
use Rattle.std.proofs.lemmas.Bool.{cases_lt}
use Rattle.std.proofs.lemmas.List.{append-nil, get_or-append_right, get_or_append_left, length-append}
use Rattle.std.proofs.lemmas.List.FromFn.{get_or-map-range_with_len, length-map-range_with_len, map-range_with_len_more}
use Rattle.std.proofs.lemmas.Option.{slice_get-get_or, slice_get_past}
use Rattle.machine.proofs.Lists.{get_map}
use Rattle.machine.specs.declared.answers.Item.{Item}
use Rattle.machine.specs.Stages.Pending.{item}
use Rattle.due_items.specs.Row.{AreKept, item_from, item_kept, items_kept}

pub kept_length : (s ms : List ℕ) → length (items_kept s ms) ≡ length ms
kept_length s ms = length-map-range_with_len (item_kept s ms) 0 (length ms)

-- ---- looking up

pub kept_there : (s ms : List ℕ) (i m : ℕ) → i < length ms → m ≡ slice_index_or ms i 0 → Some (item_from s m i) ≡ slice_get (items_kept s ms) i
kept_there s ms i m within e =
    ap (λ n. Some (item_from s n i)) e
    ∙ sym (get_map (item_kept s ms) ms 0 i i (omega arith) ∙ ap (option_map (λ y. item_kept s ms i)) (slice_get-get_or ms i 0 within))

pub kept_past : (s ms : List ℕ) (i : ℕ) → length ms ≤ i → None ≡ slice_get (items_kept s ms) i
kept_past s ms i past = sym (get_map (item_kept s ms) ms 0 i i (omega arith) ∙ ap (option_map (λ y. item_kept s ms i)) (slice_get_past ms i past))

-- ---- one more message

same_upto : (f g : ℕ → Item) (s len : ℕ) → ((j : ℕ) → j < s + len → f j ≡ g j) → map f (range_with_len s len) ≡ map g (range_with_len s len)
same_upto f g s zero h = refl
same_upto f g s (suc len) h = ap (λ x. x ∷ map f (range_with_len (s + 1) len)) (h s (omega arith)) ∙ ap (λ xs. g s ∷ xs) (same_upto f g (s + 1) len (λ j l. h j (omega arith)))

-- one more item
one_more : (s ms : List ℕ) (n : ℕ) → items_kept s (ms ++ n ∷ []) ≡ items_kept s ms ++ item_from s n (length ms) ∷ []
one_more s ms n =
    let more = ms ++ n ∷ [] in
    ap (λ len. map (item_kept s more) (range_with_len 0 len)) (length-append ms (n ∷ []))
    ∙ map-range_with_len_more (item_kept s more) 0 (length ms) (length ms) (omega arith)
    ∙ ap (λ xs. xs ++ item_kept s more (length ms) ∷ []) (same_upto (item_kept s more) (item_kept s ms) 0 (length ms) (λ j l. ap (λ m. item_from s m j) (get_or_append_left ms (n ∷ []) 0 j (omega (arith, l)))))
    ∙ ap (λ m. items_kept s ms ++ item_from s m (length ms) ∷ []) (get_or-append_seam ms n [] 0)

-- where one more message begins doesn't matter to the items before it
longer_starts : (s ms : List ℕ) (x : ℕ) → AreKept s ms → items_kept (s ++ x ∷ []) ms ≡ items_kept s ms
longer_starts s ms x k = same_upto (item_kept (s ++ x ∷ []) ms) (item_kept s ms) 0 (length ms) (λ j l.
    let some = k.some in
    let within = k.within j (omega (arith, l)) in
    let same = get_or_append_left s (x ∷ []) 0 (slice_index_or ms j 0 - 1) (omega (arith, some, within)) in
    λ i. record { msg = slice_index_or ms j 0; entry = j - same i })

numbers_more : (n k : ℕ) (ms : List ℕ) → ms ++ map (λ j. n) (range_with_len 0 (suc k)) ≡ (ms ++ map (λ j. n) (range_with_len 0 k)) ++ n ∷ []
numbers_more n k ms =
    let s : suc k ≡ k + 1 = omega arith in
    ap (λ m. ms ++ map (λ j. n) (range_with_len 0 m)) s
    ∙ ap (λ xs. ms ++ xs) (map-range_with_len_more (λ j. n) 0 k k (omega arith))
    ∙ sym (append_assoc ms (map (λ j. n) (range_with_len 0 k)) (n ∷ []))

pub kept_pushed : (s ms : List ℕ) (n x count : ℕ) → AreKept s ms → n ≡ length s → items_kept (s ++ x ∷ []) (ms ++ map (λ j. n) (range_with_len 0 count)) ≡ items_kept s ms ++ map (item n) (range_with_len 0 count)
kept_pushed s ms n x zero k e = ap (items_kept (s ++ x ∷ [])) (append-nil ms) ∙ longer_starts s ms x k ∙ sym (append-nil (items_kept s ms))
kept_pushed s ms n x (suc count) k e =
    let before = ms ++ map (λ j. n) (range_with_len 0 count) in
    let t : suc count ≡ count + 1 = omega arith in
    ap (items_kept (s ++ x ∷ [])) (numbers_more n count ms)
    ∙ one_more (s ++ x ∷ []) before n
    ∙ ap (λ xs. xs ++ item_from (s ++ x ∷ []) n (length before) ∷ []) (kept_pushed s ms n x count k e)
    ∙ ap (λ y. (items_kept s ms ++ map (item n) (range_with_len 0 count)) ++ y ∷ []) (λ i. record { msg = n; entry = last i })
    ∙ append_assoc (items_kept s ms) (map (item n) (range_with_len 0 count)) (item n count ∷ [])
    ∙ ap (λ xs. items_kept s ms ++ xs) (sym (map-range_with_len_more (item n) 0 count count (omega arith)))
    ∙ ap (λ m. items_kept s ms ++ map (item n) (range_with_len 0 m)) (sym t)
  where
    last : length (ms ++ map (λ j. n) (range_with_len 0 count)) - slice_index_or (s ++ x ∷ []) (n - 1) 0 ≡ count
    last =
        let some = k.some in
        let next = k.next in
        let at : n - 1 ≡ length s - 1 = omega (arith, e) in
        let start = get_or_append_left s (x ∷ []) 0 (n - 1) (omega (arith, some, e)) ∙ ap (λ j. slice_index_or s j 0) at ∙ next in
        let long = length-append ms (map (λ j. n) (range_with_len 0 count)) in
        let size = length-map-range_with_len (λ j. n) 0 count in
        omega (arith, start, long, size)

pub still_kept : (s ms : List ℕ) (n x count : ℕ) → AreKept s ms → n ≡ length s → x ≡ length (ms ++ map (λ j. n) (range_with_len 0 count)) → AreKept (s ++ x ∷ []) (ms ++ map (λ j. n) (range_with_len 0 count))
still_kept s ms n x count k e last = record {
  some = let long = length-append s (x ∷ []) in omega (arith, long);
  within = λ i h. here i h (cases_lt i (length ms));
  next = let long = length-append s (x ∷ []) in let at : length (s ++ x ∷ []) - 1 ≡ length s = omega (arith, long) in ap (λ j. slice_index_or (s ++ x ∷ []) j 0) at ∙ get_or-append_seam s x [] 0 ∙ last;
}
  where
    own : List ℕ
    own = map (λ j. n) (range_with_len 0 count)

    here : (i : ℕ) → i < length (ms ++ own) → (i < length ms) ⊎ (length ms ≤ i) → slice_index_or (ms ++ own) i 0 ≤ length (s ++ x ∷ [])
    here i h (inl low) =
        let before = k.within i low in
        let same = get_or_append_left ms own 0 i low in
        let long = length-append s (x ∷ []) in
        omega (arith, before, same, long)
    here i h (inr high) =
        let all = length-append ms own in
        let size = length-map-range_with_len (λ j. n) 0 count in
        let there = get_or-append_right ms own (length ms) i 0 refl high in
        let is = get_or-map-range_with_len (λ j. n) 0 count (i - length ms) (i - length ms) 0 (omega (arith, h, all, size, high)) (omega arith) in
        let long = length-append s (x ∷ []) in
        omega (arith, there, is, long, e)

-- ---- the lists of a row

pub none_kept : (s ms : List ℕ) → s ≡ 0 ∷ [] → ms ≡ [] → AreKept s ms
none_kept s ms e f = subst (λ (t : List ℕ). AreKept t ms) (sym e) (subst (AreKept (0 ∷ [])) (sym f) (record {
  some = omega arith;
  within = λ i h. absurd (omega arith);
  next = refl;
}))

pub lists_kept : (s ms new_s new_ms : List ℕ) (n x count : ℕ) → AreKept s ms → n ≡ length s → new_s ≡ s ++ x ∷ [] → new_ms ≡ ms ++ map (λ j. n) (range_with_len 0 count) → x ≡ length new_ms → AreKept new_s new_ms
lists_kept s ms new_s new_ms n x count k e a b l =
    subst (λ (t : List ℕ). AreKept t new_ms) (sym a) (subst (AreKept (s ++ x ∷ [])) (sym b) (still_kept s ms n x count k e (l ∙ ap length b)))

pub lists_pushed : (s ms new_s new_ms : List ℕ) (n x count : ℕ) → AreKept s ms → n ≡ length s → new_s ≡ s ++ x ∷ [] → new_ms ≡ ms ++ map (λ j. n) (range_with_len 0 count) → items_kept new_s new_ms ≡ items_kept s ms ++ map (item n) (range_with_len 0 count)
lists_pushed s ms new_s new_ms n x count k e a b = (λ i. items_kept (a i) (b i)) ∙ kept_pushed s ms n x count k e
