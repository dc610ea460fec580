-- The row of the items as it is built, and what is looked up in it.
use Rattle.std.proofs.Common.{◌≡◌, ◌∙◌, ℕ, zero, suc, ◌+◌, ◌-◌, ◌<◌, ◌≤◌, Bool, true, false, ◌&&◌, ◌||◌, List, [], ◌∷◌, ◌++◌, Option, Some, None, length, map, min, sym, ap, subst, arith, append_assoc, ◌⊎◌, inl, inr}
use Rattle.std.specs.Prelude.{nat_eq, nat_le, slice_get, slice_index_or}
use Rattle.std.specs.List.{range_with_len}
use Rattle.std.proofs.lemmas.Bool.{and_from, and_parts, cases_lt, cases_eq, eqb-true, le-leb, leb-false, leb-true, lt-leb, lt-ltb, ne_eqb, le-ltb}
use Rattle.std.proofs.lemmas.List.{append-nil}
use Rattle.std.proofs.lemmas.List.FromFn.{get_or-map-range_with_len, length-map-range_with_len, map-range_with_len_more}
use Rattle.std.proofs.lemmas.Option.{slice_get-get_or, slice_get_past}
use Rattle.batch_records.specs.DayRecord.{Day}
use Rattle.machine.specs.declared.answers.Item.{Item}
use Rattle.machine.specs.Words.{some_passes}
use Rattle.machine.specs.Records.Messages.{entries}
use Rattle.machine.specs.Stages.Pending.{item}
use Rattle.settlement_laws.proofs.Base.Places.{same-number}
use Rattle.scan_laws.specs.Numbers.{IsItem, item_count, item_number, item_of}
use Rattle.scan_laws.proofs.NumberFacts.{item-is, item-there, number-back, number-within}
use Rattle.scan_laws.proofs.Sizes.{number-entry, number-first, number-last, number-message}
use Rattle.due_items.specs.Due.{is_from}
use Rattle.due_items.specs.declared.row.Room.{Room}
use Rattle.due_items.specs.Row.{IsNumber, IsPlace, IsRowOf, Row, items_of, row_upto, spent, starts_of}

-- ---- building

-- the items of message n after those of the messages before it
pub items_more : (day : Day) (n count : ℕ) (old new : List Item) → 1 ≤ n → n ≤ length day.messages → count ≡ length (entries day n) + 1 → old ≡ items_of day (item_number day n 0) → new ≡ old ++ map (item n) (range_with_len 0 count) → new ≡ items_of day (item_number day (n + 1) 0)
items_more day n count old new first last size e p = p ∙ ap (λ xs. xs ++ map (item n) (range_with_len 0 count)) e ∙ up count (omega (arith, size)) ∙ ap (λ m. items_of day m) whole
  where
    start : ℕ
    start = item_number day n 0

    up : (k : ℕ) → k ≤ length (entries day n) + 1 → items_of day start ++ map (item n) (range_with_len 0 k) ≡ items_of day (start + k)
    up zero below =
        let z : start ≡ start + zero = omega arith in
        append-nil (items_of day start) ∙ ap (λ m. items_of day m) z
    up (suc k) below =
        let is : IsItem day n k = record { first = first; last = last; entry = omega (arith, below) } in
        let at : item_of day (start + k) ≡ item n k = ap (item_of day) (sym (number-entry day n k)) ∙ item-there day n k is in
        let s : suc k ≡ k + 1 = omega arith in
        let t : (start + k) + 1 ≡ start + suc k = omega arith in
        ap (λ m. items_of day start ++ map (item n) (range_with_len 0 m)) s
        ∙ ap (λ xs. items_of day start ++ xs) (map-range_with_len_more (item n) 0 k k (omega arith))
        ∙ sym (append_assoc (items_of day start) (map (item n) (range_with_len 0 k)) (item n k ∷ []))
        ∙ ap (λ xs. xs ++ item n k ∷ []) (up k (omega (arith, below)))
        ∙ ap (λ x. items_of day (start + k) ++ x ∷ []) (sym at)
        ∙ sym (map-range_with_len_more (item_of day) 0 (start + k) (start + k) (omega arith))
        ∙ ap (λ m. items_of day m) t

    whole : start + count ≡ item_number day (n + 1) 0
    whole = let m = number-message day n first in omega (arith, m, size)

-- one more at the end of a list over a range
pub row_more : {X : Type 0} (f : ℕ → X) (s : ℕ) (old new : List X) (k i : ℕ) (x : X) → i ≡ s + k → old ≡ map f (range_with_len s k) → x ≡ f i → new ≡ old ++ x ∷ [] → new ≡ map f (range_with_len s (k + 1))
row_more f s old new k i x at h e n =
    n ∙ ap (λ xs. xs ++ x ∷ []) h ∙ ap (λ y. map f (range_with_len s k) ++ y ∷ []) e ∙ sym (map-range_with_len_more f s k i (sym at))

-- and after other items
pub row_pushed : {X : Type 0} (f : ℕ → X) (base old new : List X) (k : ℕ) (x : X) → old ≡ base ++ map f (range_with_len 0 k) → x ≡ f k → new ≡ old ++ x ∷ [] → new ≡ base ++ map f (range_with_len 0 (k + 1))
row_pushed f base old new k x h e n =
    n ∙ ap (λ xs. xs ++ x ∷ []) h ∙ append_assoc base (map f (range_with_len 0 k)) (x ∷ []) ∙ ap (λ xs. base ++ xs) (ap (λ y. map f (range_with_len 0 k) ++ y ∷ []) e ∙ sym (map-range_with_len_more f 0 k k (omega arith)))

pub items_first : (day : Day) (items : List Item) → items ≡ [] → items ≡ items_of day (item_number day 1 0)
items_first day items e = e ∙ sym (ap (items_of day) (number-first day))

-- where message n begins is not after the last item
pub start_below : (day : Day) (n : ℕ) → 1 ≤ n → n ≤ length day.messages + 1 → item_number day n 0 ≤ item_count day
start_below day n first last = here (cases_lt n (length day.messages + 1))
  where
    here : (n < length day.messages + 1) ⊎ (length day.messages + 1 ≤ n) → item_number day n 0 ≤ item_count day
    here (inl h) = let w = number-within day n 0 (record { first = first; last = omega (arith, h); entry = omega arith }) in omega (arith, w)
    here (inr h) =
        let e : n ≡ length day.messages + 1 = omega (arith, h, last) in
        let s : item_number day n 0 ≡ item_count day = ap (λ m. item_number day m 0) e ∙ number-last day in
        omega (arith, s)

-- where message n + 1 begins, while the items before it stand
pub start_pushed : (day : Day) (items : List Item) (old new : List ℕ) (n len : ℕ) → old ≡ starts_of day n → items ≡ items_of day (item_number day (n + 1) 0) → len ≡ length items → new ≡ old ++ len ∷ [] → new ≡ starts_of day (n + 1)
start_pushed day items old new n len s e l p =
    row_more (λ m. item_number day m 0) 1 old new n (n + 1) len (omega arith) s (l ∙ ap length e ∙ length-map-range_with_len (item_of day) 0 (item_number day (n + 1) 0)) p

-- no message
pub row_empty : (day : Day) (starts : List ℕ) (items : List Item) (room : Room) → starts ≡ 0 ∷ [] → items ≡ [] → record { starts = starts; items = items; room = room } ≡ row_upto day 0 room
row_empty day starts items room s e = λ i. record { starts = (s ∙ ap (λ x. x ∷ []) (sym (number-first day))) i; items = items_first day items e i; room = room }

-- one more
pub row_arrives : (day : Day) (k n count len : ℕ) (old : Row) (new_starts : List ℕ) (new_items : List Item) → n ≡ k + 1 → n ≤ length day.messages → count ≡ length (entries day n) + 1 → old ≡ row_upto day k old.room →
    new_items ≡ old.items ++ map (item n) (range_with_len 0 count) → len ≡ length new_items → new_starts ≡ old.starts ++ len ∷ [] →
    record { starts = new_starts; items = new_items; room = spent day n old.room } ≡ row_upto day n (spent day n old.room)
row_arrives day k n count len old new_starts new_items e last size is more l p = λ i. record { starts = starts i; items = all i; room = spent day n old.room }
  where
    before : old.items ≡ items_of day (item_number day n 0)
    before = ap (λ (r : Row). r.items) is ∙ ap (λ m. items_of day (item_number day m 0)) (sym e)

    all : new_items ≡ items_of day (item_number day (n + 1) 0)
    all = items_more day n count old.items new_items (omega (arith, e)) last size before more

    starts : new_starts ≡ starts_of day (n + 1)
    starts = start_pushed day new_items old.starts new_starts n len (ap (λ (r : Row). r.starts) is ∙ ap (λ m. starts_of day m) (sym e)) all l p

-- ---- looking up

-- where message n begins
pub start_is : (day : Day) (n : ℕ) → 1 ≤ n → n ≤ length day.messages + 1 → slice_index_or (starts_of day (length day.messages + 1)) (n - 1) 0 ≡ item_number day n 0
start_is day n first last = get_or-map-range_with_len (λ m. item_number day m 0) 1 (length day.messages + 1) (n - 1) n 0 (omega (arith, first, last)) (omega (arith, first))

pub items_length : (day : Day) → length (items_of day (item_count day)) ≡ item_count day
items_length day = length-map-range_with_len (item_of day) 0 (item_count day)

pub item_at : (day : Day) (i : ℕ) → i < item_count day → slice_get (items_of day (item_count day)) i ≡ Some (item_of day i)
item_at day i within =
    let len = items_length day in
    slice_get-get_or (items_of day (item_count day)) i (item 0 0) (omega (arith, len, within)) ∙ ap Some (get_or-map-range_with_len (item_of day) 0 (item_count day) i i (item 0 0) within (omega arith))

-- a number whose item passes
abbrev passes_at : ℕ → ℕ → Option Item → Bool
passes_at n k o = some_passes (λ x. nat_eq x.msg n && nat_eq x.entry k) o

pub number_found : (day : Day) (row : Row) (i n k : ℕ) → IsRowOf day row → passes_at n k (slice_get row.items i) ≡ true → IsNumber day n k (Some i)
number_found day row i n k e passes = here (cases_lt i (item_count day))
  where
    on : passes_at n k (slice_get (items_of day (item_count day)) i) ≡ true
    on = ap (λ (r : Row). passes_at n k (slice_get r.items i)) (sym e) ∙ passes

    here : (i < item_count day) ⊎ (item_count day ≤ i) → IsNumber day n k (Some i)
    here (inl h) =
        let p = and_parts (nat_eq (item_of day i).msg n) (nat_eq (item_of day i).entry k) (ap (passes_at n k) (sym (item_at day i h)) ∙ on) in
        (h, λ j. record { msg = eqb-true (item_of day i).msg n p.0 j; entry = eqb-true (item_of day i).entry k p.1 j })
    here (inr h) =
        let len = items_length day in
        let f : false ≡ true = sym (ap (passes_at n k) (slice_get_past (items_of day (item_count day)) i (omega (arith, len, h)))) ∙ on in
        cc

pub number_missed : (day : Day) (row : Row) (start i n k : ℕ) → IsRowOf day row → start ≡ slice_index_or row.starts (n - 1) 0 → i ≡ start + k → passes_at n k (slice_get row.items i) ≡ false → IsNumber day n k None
number_missed day row start i n k e s p fails is =
    let w : item_number day n k < item_count day = number-within day n k is in
    let at : start ≡ item_number day n 0 = s ∙ ap (λ (r : Row). slice_index_or r.starts (n - 1) 0) e ∙ start_is day n is.first (let l = is.last in omega (arith, l)) in
    let number : item_number day n k ≡ i = number-entry day n k ∙ ap (λ m. m + k) (sym at) ∙ sym p in
    let found : slice_get row.items i ≡ Some (item n k) = ap (λ (r : Row). slice_get r.items i) e ∙ ap (slice_get (items_of day (item_count day))) (sym number) ∙ item_at day (item_number day n k) w ∙ ap Some (item-there day n k is) in
    let yes : (nat_eq n n && nat_eq k k) ≡ true = and_from (nat_eq n n) (nat_eq k k) (same-number n) (same-number k) in
    let f : false ≡ true = sym fails ∙ ap (passes_at n k) found ∙ yes in
    cc

pub no_number : (day : Day) (n k : ℕ) → n ≡ 0 → IsNumber day n k None
no_number day n k e is = let f = is.first in omega (arith, e, f)

-- ---- the place from which items don't stand before one

-- the numbers of item i's message
record At (day : Day) (i : ℕ) : Type 0 where
  is : IsItem day (item_of day i).msg (item_of day i).entry
  number : item_number day (item_of day i).msg 0 + (item_of day i).entry ≡ i

at : (day : Day) (i : ℕ) → i < item_count day → At day i
at day i h = record { is = item-is day i h; number = sym (number-entry day (item_of day i).msg (item_of day i).entry) ∙ number-back day i h }

begins_next : (day : Day) (m n : ℕ) → 1 ≤ m → m < suc n → (m ≡ n) ⊎ ((m ≡ n) → ⊥) → (m < n → item_number day m 0 + (length (entries day m) + 1) ≤ item_number day n 0) → item_number day m 0 + (length (entries day m) + 1) ≤ item_number day (suc n) 0
begins_next day m n first less (inl e) before =
    let s : suc n ≡ m + 1 = omega (arith, e) in
    let f : item_number day (suc n) 0 ≡ item_number day m 0 + (length (entries day m) + 1) = ap (λ x. item_number day x 0) s ∙ number-message day m first in
    omega (arith, f)
begins_next day m n first less (inr ne) before =
    let b = before (omega (arith, less, ne)) in
    let s : suc n ≡ n + 1 = omega arith in
    let f : item_number day (suc n) 0 ≡ item_number day n 0 + (length (entries day n) + 1) = ap (λ x. item_number day x 0) s ∙ number-message day n (omega (arith, first, less, ne)) in
    omega (arith, b, f)

-- a message that stands before another one begins before it, and ends there at most
begins : (day : Day) (m n : ℕ) → 1 ≤ m → m < n → n ≤ length day.messages + 1 → item_number day m 0 + (length (entries day m) + 1) ≤ item_number day n 0
begins day m zero first less last = absurd (omega (arith, less))
begins day m (suc n) first less last = begins_next day m n first less (cases_eq m n) (λ l. begins day m n first l (omega (arith, last)))

pub place_first : (day : Day) (from : Item) → from.msg ≡ 0 → IsPlace day from 0
place_first day from e = record {
  within = omega arith;
  parts = λ i h. let a = at day i h in let f = a.is.first in
      le-leb 0 i (omega arith)
      ∙ sym (ap (λ b. b || nat_eq from.msg (item_of day i).msg && nat_le from.entry (item_of day i).entry) (lt-ltb from.msg (item_of day i).msg (omega (arith, e, f))));
}

pub place_last : (day : Day) (from : Item) (count : ℕ) → count ≡ item_count day → length day.messages + 1 ≤ from.msg → IsPlace day from count
place_last day from count e past = record {
  within = omega (arith, e);
  parts = λ i h. let a = at day i h in let l = a.is.last in
      lt-leb count i (omega (arith, e, h))
      ∙ sym (ap (λ b. b || nat_eq from.msg (item_of day i).msg && nat_le from.entry (item_of day i).entry) (le-ltb from.msg (item_of day i).msg (omega (arith, l, past)))
      ∙ ap (λ b. b && nat_le from.entry (item_of day i).entry) (ne_eqb from.msg (item_of day i).msg (λ q. omega (arith, l, past, q))));
}

pub place_within : (day : Day) (from : Item) (start end place : ℕ) → 1 ≤ from.msg → from.msg ≤ length day.messages → start ≡ item_number day from.msg 0 → end ≡ item_number day (from.msg + 1) 0 → place ≡ min (start + from.entry) end → IsPlace day from place
place_within day from start end place first last s e p = record {
  within = let b = start_below day (from.msg + 1) (omega arith) (omega (arith, last)) in omega (arith, b, e, p);
  parts = λ i h. here i (at day i h) (cases_lt (item_of day i).msg from.msg) (cases_lt from.msg (item_of day i).msg);
}
  where
    size : end ≡ start + (length (entries day from.msg) + 1)
    size = e ∙ number-message day from.msg first ∙ ap (λ x. x + (length (entries day from.msg) + 1)) (sym s)

    here : (i : ℕ) → At day i → ((item_of day i).msg < from.msg) ⊎ (from.msg ≤ (item_of day i).msg) → (from.msg < (item_of day i).msg) ⊎ ((item_of day i).msg ≤ from.msg) → nat_le place i ≡ is_from from (item_of day i).msg (item_of day i).entry
    here i a (inl h) o =
        let b = begins day (item_of day i).msg from.msg a.is.first h (omega (arith, last)) in
        let k = a.is.entry in
        let n = a.number in
        lt-leb place i (omega (arith, b, k, n, s, size, p))
        ∙ sym (ap (λ c. c || nat_eq from.msg (item_of day i).msg && nat_le from.entry (item_of day i).entry) (le-ltb from.msg (item_of day i).msg (omega (arith, h)))
        ∙ ap (λ c. c && nat_le from.entry (item_of day i).entry) (ne_eqb from.msg (item_of day i).msg (λ q. omega (arith, h, q))))
    here i a (inr h) (inl o) =
        let l = a.is.last in
        let b : end ≤ item_number day (item_of day i).msg 0 = later (cases_eq (from.msg + 1) (item_of day i).msg) in
        let n = a.number in
        le-leb place i (omega (arith, b, n, p))
        ∙ sym (ap (λ c. c || nat_eq from.msg (item_of day i).msg && nat_le from.entry (item_of day i).entry) (lt-ltb from.msg (item_of day i).msg o))
      where
        later : (from.msg + 1 ≡ (item_of day i).msg) ⊎ ((from.msg + 1 ≡ (item_of day i).msg) → ⊥) → end ≤ item_number day (item_of day i).msg 0
        later (inl q) = let f : item_number day (from.msg + 1) 0 ≡ item_number day (item_of day i).msg 0 = ap (λ x. item_number day x 0) q in omega (arith, e, f)
        later (inr ne) =
            let l = a.is.last in
            let b = begins day (from.msg + 1) (item_of day i).msg (omega arith) (omega (arith, o, ne)) (omega (arith, l)) in
            omega (arith, b, e)
    here i a (inr h) (inr o) =
        let q : from.msg ≡ (item_of day i).msg = omega (arith, h, o) in
        let f : item_number day (item_of day i).msg 0 ≡ start = ap (λ x. item_number day x 0) (sym q) ∙ sym s in
        let n = a.number in
        let k : (item_of day i).entry ≤ length (entries day from.msg) = subst (λ x. (item_of day i).entry ≤ length (entries day x)) (sym q) a.is.entry in
        same (cases_lt (item_of day i).entry from.entry)
        ∙ sym (ap (λ c. c || nat_eq from.msg (item_of day i).msg && nat_le from.entry (item_of day i).entry) (le-ltb from.msg (item_of day i).msg o)
        ∙ ap (λ c. c && nat_le from.entry (item_of day i).entry) (ap (nat_eq from.msg) (sym q) ∙ same-number from.msg))
      where
        same : ((item_of day i).entry < from.entry) ⊎ (from.entry ≤ (item_of day i).entry) → nat_le place i ≡ nat_le from.entry (item_of day i).entry
        same (inl less) =
            let q : from.msg ≡ (item_of day i).msg = omega (arith, h, o) in
            let f : item_number day (item_of day i).msg 0 ≡ start = ap (λ x. item_number day x 0) (sym q) ∙ sym s in
            let n = a.number in
            let k : (item_of day i).entry ≤ length (entries day from.msg) = subst (λ x. (item_of day i).entry ≤ length (entries day x)) (sym q) a.is.entry in
            lt-leb place i (omega (arith, less, f, n, k, size, p)) ∙ sym (lt-leb from.entry (item_of day i).entry less)
        same (inr more) =
            let q : from.msg ≡ (item_of day i).msg = omega (arith, h, o) in
            let f : item_number day (item_of day i).msg 0 ≡ start = ap (λ x. item_number day x 0) (sym q) ∙ sym s in
            let n = a.number in
            le-leb place i (omega (arith, more, f, n, p)) ∙ sym (le-leb from.entry (item_of day i).entry more)

starts_length : (day : Day) → length (starts_of day (length day.messages + 1)) ≡ length day.messages + 1
starts_length day = length-map-range_with_len (λ m. item_number day m 0) 1 (length day.messages + 1)

pub place_past : (day : Day) (row : Row) (from : Item) (count : ℕ) → IsRowOf day row → count ≡ length row.items → nat_le (length row.starts) from.msg ≡ true → IsPlace day from count
place_past day row from count e c past =
    let len = starts_length day in
    let same : length row.starts ≡ length (starts_of day (length day.messages + 1)) = ap (λ (r : Row). length r.starts) e in
    let p = leb-true (length row.starts) from.msg past in
    place_last day from count (c ∙ ap (λ (r : Row). length r.items) e ∙ items_length day) (omega (arith, len, same, p))

pub place_in : (day : Day) (row : Row) (from : Item) (start end place : ℕ) → IsRowOf day row → (from.msg ≡ 0 → ⊥) → nat_le (length row.starts) from.msg ≡ false → start ≡ slice_index_or row.starts (from.msg - 1) 0 → end ≡ slice_index_or row.starts from.msg 0 → place ≡ min (start + from.entry) end → IsPlace day from place
place_in day row from start end place e ne below s t p =
    let len = starts_length day in
    let same : length row.starts ≡ length (starts_of day (length day.messages + 1)) = ap (λ (r : Row). length r.starts) e in
    let b = leb-false (length row.starts) from.msg below in
    let last : from.msg ≤ length day.messages = omega (arith, len, same, b) in
    place_within day from start end place (omega (arith, ne)) last
    (s ∙ ap (λ (r : Row). slice_index_or r.starts (from.msg - 1) 0) e ∙ start_is day from.msg (omega (arith, ne)) (omega (arith, last)))
    (let at : from.msg ≡ from.msg + 1 - 1 = omega arith in t ∙ ap (λ (r : Row). slice_index_or r.starts from.msg 0) e ∙ ap (λ i. slice_index_or (starts_of day (length day.messages + 1)) i 0) at ∙ start_is day (from.msg + 1) (omega arith) (omega (arith, last)))
    p
