-- What a queue keeps: with one row more, with one row less.
use Rattle.std.proofs.Common.{◌≡◌, ◌≢◌, ℕ, zero, suc, ◌+◌, ◌-◌, ◌^◌, ◌<◌, ◌≤◌, Bool, true, false, ◌&&◌, nat_eq, cond, List, [], ◌∷◌, ◌++◌, append_assoc, Option, Some, None, length, map, replicate, set, refl, sym, ap, ◌∙◌, subst, inl, inr, lit<, arith, ⊎_elim}
use Rattle.std.specs.Prelude.{slice_index_or}
use Rattle.std.specs.Option.{is_none, is_some, option_and_then, unwrap_or}
use Rattle.std.proofs.lemmas.Bool.{and_from, cases_eq, cases_lt, eq-eqb, false_from_ne_true, true≢false}
use Rattle.std.proofs.lemmas.List.{ext_get_or, get_or_append_left, get_or_past, get_or-append_right, get_or-replicate, length-append, length-replicate, length-set, map-append}
use Rattle.number_set.specs.Members.{has}
use Rattle.machine.specs.declared.answers.Item.{Item}
use Rattle.payment_queue.specs.declared.row.Row.{Row}
use Rattle.payment_queue.specs.declared.index.Index.{Index}
use Rattle.payment_queue.specs.Standing.{is_item, same_place}
use Rattle.payment_queue.specs.Queued.{blocker, blocker_at, first_before, has_place, is_row_of, row_in, standing, stands_on}
use Rattle.payment_queue.specs.Indexed.{AreSound, IsEmpty, IsFree, IsGrown, IsIndex, IsSized, IsSmall, KeepsSize, blank, key, band, live, position, reversed, row_at, row_band}
use Rattle.payment_queue.specs.declared.chain.Chain.{Chain}
use Rattle.payment_queue.specs.Chains.{AreApart, IsChained}
use Rattle.payment_queue.specs.Linked.{step_of}
use Rattle.payment_queue.specs.Kept.{HasRoom, IsKept, StandOnce}
use Rattle.payment_queue.proofs.IndexLemmas.{empty_index, item_same, sound_set}
use Rattle.payment_queue.proofs.OrderLemmas.{account_from_band, same_from_key}
use Rattle.payment_queue.proofs.Slots.{at_other, at_same, cleared_left, find_at, live_item, live_other, live_same, live_slot, none_any, none_live, none_passes, row_is}

-- ---- pairs of rows

-- what two rows that stand are only where they are one is so with one row more, where it isn't of that row and one that stands
one_placed : (P : Row → Row → Type 0) → ((r s : Row) → P r s → P s r) → (slots : List (Option Row)) (slot : ℕ) (row : Row) → slot < length slots →
    ((u v : ℕ) → live slots u ≡ true → live slots v ≡ true → P (row_at slots u) (row_at slots v) → u ≡ v) → ((u : ℕ) → live slots u ≡ true → P (row_at slots u) row → ⊥) →
    (u v : ℕ) → live (set slots slot (Some row)) u ≡ true → live (set slots slot (Some row)) v ≡ true → P (row_at (set slots slot (Some row)) u) (row_at (set slots slot (Some row)) v) → u ≡ v
one_placed P reversed slots slot row room old none u v lu lv p = elim (cases_eq u slot) [
  | inl e ↦ elim (cases_eq v slot) [
    | inl e' ↦ e ∙ sym e'
    | inr ne' ↦ absurd (none v (was v ne' lv) (reversed row (row_at slots v) (subst (λ (r : Row). P r (row_at slots v)) (here u e) (subst (P (row_at (set slots slot (Some row)) u)) (at_other slots slot (Some row) v ne') p))))
  ]
  | inr ne ↦ elim (cases_eq v slot) [
    | inl e' ↦ absurd (none u (was u ne lu) (subst (P (row_at slots u)) (here v e') (subst (λ (r : Row). P r (row_at (set slots slot (Some row)) v)) (at_other slots slot (Some row) u ne) p)))
    | inr ne' ↦ old u v (was u ne lu) (was v ne' lv)
        (subst (P (row_at slots u)) (at_other slots slot (Some row) v ne') (subst (λ (r : Row). P r (row_at (set slots slot (Some row)) v)) (at_other slots slot (Some row) u ne) p))
  ]
]
  where
    was : (w : ℕ) → w ≢ slot → live (set slots slot (Some row)) w ≡ true → live slots w ≡ true
    was w ne lw = sym (live_other slots slot (Some row) w ne) ∙ lw

    here : (w : ℕ) → w ≡ slot → row_at (set slots slot (Some row)) w ≡ row
    here w e = ap (row_at (set slots slot (Some row))) e ∙ at_same slots slot row room

-- ---- places

pub place_from_band : (r s : Row) → IsSmall r.place → IsSmall s.place → row_band r ≡ row_band s → key r.place ≡ key s.place → (nat_eq r.account s.account && same_place r.place s.place) ≡ true
place_from_band r s p q l k = and_from _ _ (eq-eqb _ _ (account_from_band r.account s.account r.priority s.priority l).0) (same_from_key r.place s.place p q k)

-- a place that no row has
pub free_place : (slots : List (Option Row)) (row : Row) → AreSound slots → IsSmall row.place → has_place (standing slots) row.account row.place ≡ false → IsFree slots row
free_place slots row sound small none = record {
  free = λ u lu ln same. true≢false (sym (place_from_band (row_at slots u) row (sound.places u) small ln same)
      ∙ none_passes slots (λ r. nat_eq r.account row.account && same_place r.place row.place) none u lu);
}

-- ---- items

item_from : (a : ℕ) (x : Item) (r : Row) → r.account ≡ a → r.item ≡ x → is_item a x r ≡ true
item_from a x r e i = and_from _ _ (eq-eqb _ _ e) (and_from _ _ (eq-eqb _ _ (ap (λ (y : Item). y.msg) i)) (eq-eqb _ _ (ap (λ (y : Item). y.entry) i)))

-- an item stands at one slot alone
pub one_slot : (slots : List (Option Row)) → StandOnce slots → (a : ℕ) (x : Item) (u v : ℕ) → live slots u ≡ true → live slots v ≡ true → is_item a x (row_at slots u) ≡ true → is_item a x (row_at slots v) ≡ true → u ≡ v
one_slot slots o a x u v lu lv hu hv =
    let p = item_same a x (row_at slots u) hu in
    let q = item_same a x (row_at slots v) hv in
    o.once u v lu lv (p.0 ∙ sym q.0) (p.1 ∙ sym q.1)

of_row : (a : ℕ) (x : Item) (o : Option Row) (r : Row) → o ≡ Some r → is_row_of a x o ≡ is_item a x r
of_row a x o r e = ap (is_row_of a x) e

pub item_at_slot : (slots : List (Option Row)) (a : ℕ) (x : Item) (s : ℕ) → is_row_of a x (row_in slots s) ≡ true → is_item a x (row_at slots s) ≡ true
item_at_slot slots a x s h = sym (of_row a x (row_in slots s) (row_at slots s) (row_is slots s (live_item slots a x s h))) ∙ h

-- to take off an item is to clear its slot
pub is_left : (slots : List (Option Row)) (a : ℕ) (x : Item) (s : ℕ) → StandOnce slots → is_row_of a x (row_in slots s) ≡ true → set slots s None ≡ map (λ o. cond (is_row_of a x o) None o) slots
is_left slots a x s once h = cleared_left a x slots s (live_slot slots s (live_item slots a x s h)) h (λ u ne. false_from_ne_true (is_row_of a x (row_in slots u)) (λ h'.
    ne (one_slot slots once a x u s (live_item slots a x u h') (live_item slots a x s h) (item_at_slot slots a x u h') (item_at_slot slots a x s h))))

-- an item's blocker is that of its slot
pub blocker_same : (slots : List (Option Row)) (accounts room a : ℕ) (x : Item) (s : ℕ) → StandOnce slots → is_row_of a x (row_in slots s) ≡ true →
    blocker_at (record { slots = slots; accounts = accounts; room = room }) s ≡ blocker (standing slots) a x
blocker_same slots accounts room a x s once h =
    let is_in : live slots s ≡ true = live_item slots a x s h in
    let mine : is_item a x (row_at slots s) ≡ true = item_at_slot slots a x s h in
    ap (option_and_then (λ (r : Row). first_before (standing slots) r.account r)) (row_is slots s is_in)
    ∙ ap (λ (b : ℕ). first_before (standing slots) b (row_at slots s)) (item_same a x (row_at slots s) mine).0
    ∙ sym (ap (option_and_then (first_before (standing slots) a)) (find_at slots (is_item a x) s is_in mine (λ u lu h'. one_slot slots once a x u s lu is_in h' mine)))

-- where no slot has the item, it doesn't stand
pub stands_nowhere : (slots : List (Option Row)) (a : ℕ) (x : Item) → ((u : ℕ) → is_row_of a x (row_in slots u) ≡ false) → stands_on (standing slots) a x ≡ false
stands_nowhere slots a x none = none_any slots (is_item a x) (λ u r e. sym (ap (is_row_of a x) e) ∙ none u)

-- ---- sizes

small_blank : IsSmall blank.place
small_blank = record { active = lit< tt; intake = lit< tt; entry = lit< tt }

sized_set : (slots : List (Option Row)) (index index' : Index) (slot : ℕ) (o : Option Row) → IsSized (length slots) index → KeepsSize index index' → IsSized (length (set slots slot o)) index'
sized_set slots index index' slot o sized size = record {
  forward = size.forward ∙ sized.forward ∙ sym (length-set slots slot o);
  backward = size.backward ∙ sized.backward ∙ sym (length-set slots slot o);
  bands = size.ends ∙ sized.bands ∙ sym size.bands;
}

-- ---- one row more

pub is_kept_placed : (slots : List (Option Row)) (index index' : Index) (slot : ℕ) (row : Row) → IsKept slots index → slot < length slots → IsSmall row.place → row_band row < length index.forward.ends.items →
    stands_on (standing slots) row.account row.item ≡ false → IsFree slots row → KeepsSize index index' → IsIndex (set slots slot (Some row)) index' → IsKept (set slots slot (Some row)) index'
is_kept_placed slots index index' slot row k room small in_band absent free size i =
    let len : length (set slots slot (Some row)) ≡ length slots = length-set slots slot (Some row) in
    let few : length slots < 2 ^ 32 = k.few in
    record {
      indexed = i;
      sized = sized_set slots index index' slot (Some row) k.sized size;
      sound = sound_set slots slot (Some row) k.sound room small;
      bands = λ s ls. elim (cases_eq s slot) [
        | inl e ↦ (let mine : band (set slots slot (Some row)) s ≡ row_band row = ap row_band (ap (row_at (set slots slot (Some row))) e ∙ at_same slots slot row room) in
            let ends = size.bands in omega arith)
        | inr ne ↦ (let same : band (set slots slot (Some row)) s ≡ band slots s = ap row_band (at_other slots slot (Some row) s ne) in
            let h = k.bands s (sym (live_other slots slot (Some row) s ne) ∙ ls) in let ends = size.bands in omega arith)
      ];
      apart = record {
        apart = λ u v lu lv ln ps. one_placed (λ r s. (row_band r ≡ row_band s) × (key r.place ≡ key s.place)) (λ r s p. (sym p.0, sym p.1)) slots slot row room
            (λ u v lu lv p. k.apart.apart u v lu lv p.0 p.1) (λ u lu p. free.free u lu p.0 p.1) u v lu lv (ln, ps);
      };
      once = record {
        once = λ u v lu lv a x. one_placed (λ r s. (r.account ≡ s.account) × (r.item ≡ s.item)) (λ r s p. (sym p.0, sym p.1)) slots slot row room
            (λ u v lu lv p. k.once.once u v lu lv p.0 p.1)
            (λ u lu p. true≢false (sym (item_from row.account row.item (row_at slots u) p.0 p.1) ∙ none_passes slots (is_item row.account row.item) absent u lu)) u v lu lv (a, x);
      };
      few = omega arith;
    }

-- ---- one row less

pub is_kept_cleared : (slots : List (Option Row)) (index index' : Index) (slot : ℕ) → IsKept slots index → live slots slot ≡ true → KeepsSize index index' → IsIndex (set slots slot None) index' →
    IsKept (set slots slot None) index'
is_kept_cleared slots index index' slot k is_in size i =
    let new : List (Option Row) = set slots slot None in
    let len : length new ≡ length slots = length-set slots slot None in
    let few : length slots < 2 ^ 32 = k.few in
    let room : slot < length slots = live_slot slots slot is_in in
    let gone : live new slot ≡ false = live_same slots slot None room in
    let other : (u : ℕ) → live new u ≡ true → u ≢ slot = λ u lu e. true≢false (sym lu ∙ ap (live new) e ∙ gone) in
    let was : (u : ℕ) → live new u ≡ true → live slots u ≡ true = λ u lu. sym (live_other slots slot None u (other u lu)) ∙ lu in
    let same : (u : ℕ) → live new u ≡ true → row_at new u ≡ row_at slots u = λ u lu. at_other slots slot None u (other u lu) in
    record {
      indexed = i;
      sized = sized_set slots index index' slot None k.sized size;
      sound = sound_set slots slot None k.sound room small_blank;
      bands = λ s ls. (let e : band new s ≡ band slots s = ap row_band (same s ls) in let h = k.bands s (was s ls) in let ends = size.bands in omega arith);
      apart = record {
        apart = λ u v lu lv ln ps. k.apart.apart u v (was u lu) (was v lv) (sym (ap row_band (same u lu)) ∙ ln ∙ ap row_band (same v lv))
            (sym (ap (λ (r : Row). key r.place) (same u lu)) ∙ ps ∙ ap (λ (r : Row). key r.place) (same v lv));
      };
      once = record {
        once = λ u v lu lv a x. k.once.once u v (was u lu) (was v lv) (sym (ap (λ (r : Row). r.account) (same u lu)) ∙ a ∙ ap (λ (r : Row). r.account) (same v lv))
            (sym (ap (λ (r : Row). r.item) (same u lu)) ∙ x ∙ ap (λ (r : Row). r.item) (same v lv));
      };
      few = omega arith;
    }

-- ---- with no row

pub is_kept_none : (n : ℕ) (index : Index) → IsEmpty index → IsSized n index → n < 2 ^ 32 → IsKept (replicate n None) index
is_kept_none n index e sized few =
    let slots : List (Option Row) = replicate n None in
    let size : length slots ≡ n = length-replicate n None in
    let none : (u : ℕ) → live slots u ≡ false = λ u. ap is_some (none_live n u) in
    record {
      indexed = empty_index slots index none e;
      sized = subst (λ (m : ℕ). IsSized m index) (sym size) sized;
      sound = record { places = λ s. subst (λ (o : Option Row). IsSmall (unwrap_or o blank).place) (sym (none_live n s)) small_blank };
      bands = λ s ls. absurd (true≢false (sym ls ∙ none s));
      apart = record { apart = λ u v lu lv ln ps. absurd (true≢false (sym lu ∙ none u)) };
      once = record { once = λ u v lu lv a x. absurd (true≢false (sym lu ∙ none u)) };
      few = omega arith;
    }

-- ---- with more slots

row_grown : (slots : List (Option Row)) (by s : ℕ) → row_in (slots ++ replicate by None) s ≡ row_in slots s
row_grown slots by s = elim (cases_lt s (length slots)) [
  | inl less ↦ get_or_append_left slots (replicate by None) None s less
  | inr past ↦ get_or-append_right slots (replicate by None) (length slots) s None refl past ∙ (none_live by (s - length slots) ∙ sym (get_or_past slots s None past))
]

link_grown : (links new : List (Option ℕ)) (by s : ℕ) → new ≡ links ++ replicate by None → slice_index_or new s None ≡ slice_index_or links s None
link_grown links new by s e = ap (λ (xs : List (Option ℕ)). slice_index_or xs s None) e ∙ elim (cases_lt s (length links)) [
  | inl less ↦ get_or_append_left links (replicate by None) None s less
  | inr past ↦ get_or-append_right links (replicate by None) (length links) s None refl past ∙ (none_at by (s - length links) ∙ sym (get_or_past links s None past))
]
  where
    none_at : (n k : ℕ) → slice_index_or (replicate {A = Option ℕ} n None) k None ≡ None
    none_at n k = elim (cases_lt k n) [
      | inl less ↦ get_or-replicate n k None None less
      | inr le ↦ (let e : length (replicate {A = Option ℕ} n None) ≡ n = length-replicate n None in get_or_past (replicate n None) k None (omega (arith, e, le)))
    ]

step_grown : (old new : Chain) (by : ℕ) → new.links.items ≡ old.links.items ++ replicate by None → new.ends.items ≡ old.ends.items → (at : Option ℕ) (c : ℕ) → step_of new at c ≡ step_of old at c
step_grown old new by links ends None c = ap (λ (xs : List (Option ℕ)). slice_index_or xs c None) ends
step_grown old new by links ends (Some s) c = link_grown old.links.items new.links.items by s links

pub is_kept_grown : (slots : List (Option Row)) (by : ℕ) (index index' : Index) → IsKept slots index → length slots + by < 2 ^ 32 → IsGrown by index index' → IsKept (slots ++ replicate by None) index'
is_kept_grown slots by index index' k few grown = record {
  indexed = record {
    forward = subst (λ (f : ℕ → Option Row). IsChained (λ s. is_some (f s)) (λ s. row_band (unwrap_or (f s) blank)) (λ s. key (unwrap_or (f s) blank).place) (step_of index'.forward)) rows_was
        (subst (IsChained (live slots) (band slots) (position slots)) (λ i at c. sym (step_grown index.forward index'.forward by grown.forward grown.bands at c) i) k.indexed.forward);
    backward = subst (λ (f : ℕ → Option Row). IsChained (λ s. is_some (f s)) (λ s. row_band (unwrap_or (f s) blank)) (λ s. 2 ^ 96 - key (unwrap_or (f s) blank).place) (step_of index'.backward)) rows_was
        (subst (IsChained (live slots) (band slots) (reversed slots)) (λ i at c. sym (step_grown index.backward index'.backward by grown.backward grown.ends at c) i) k.indexed.backward);
  };
  sized = record {
    forward = ap length grown.forward ∙ (length-append index.forward.links.items (replicate by None) ∙ ((λ i. k.sized.forward i + length (replicate {A = Option ℕ} by None)) ∙ sizes));
    backward = ap length grown.backward ∙ (length-append index.backward.links.items (replicate by None) ∙ ((λ i. k.sized.backward i + length (replicate {A = Option ℕ} by None)) ∙ sizes));
    bands = ap length grown.ends ∙ (k.sized.bands ∙ sym (ap length grown.bands));
  };
  sound = record { places = λ s. subst (λ (o : Option Row). IsSmall (unwrap_or o blank).place) (sym (row_grown slots by s)) (k.sound.places s) };
  bands = λ s ls.
      (let same : band (slots ++ replicate by None) s ≡ band slots s = ap (λ (o : Option Row). row_band (unwrap_or o blank)) (row_grown slots by s) in
      let h = k.bands s (sym (ap is_some (row_grown slots by s)) ∙ ls) in
      let ends : length index'.forward.ends.items ≡ length index.forward.ends.items = ap length grown.bands in
      omega (arith, same, h, ends));
  apart = subst (λ (f : ℕ → Option Row). AreApart (λ s. is_some (f s)) (λ s. row_band (unwrap_or (f s) blank)) (λ s. key (unwrap_or (f s) blank).place)) rows_was k.apart;
  once = record {
    once = λ u v lu lv a x. k.once.once u v (sym (ap is_some (row_grown slots by u)) ∙ lu) (sym (ap is_some (row_grown slots by v)) ∙ lv)
        (sym (ap (λ (r : Row). r.account) (at_grown u)) ∙ a ∙ ap (λ (r : Row). r.account) (at_grown v))
        (sym (ap (λ (r : Row). r.item) (at_grown u)) ∙ x ∙ ap (λ (r : Row). r.item) (at_grown v));
  };
  few = (let len = length-append slots (replicate by None) in let n : length (replicate {A = Option Row} by None) ≡ by = length-replicate by None in omega (arith, len, n, few));
}
  where
    rows_was : row_in slots ≡ row_in (slots ++ replicate by None)
    rows_was = λ i s. sym (row_grown slots by s) i

    at_grown : (s : ℕ) → row_at (slots ++ replicate by None) s ≡ row_at slots s
    at_grown s = ap (λ (o : Option Row). unwrap_or o blank) (row_grown slots by s)

    sizes : length slots + length (replicate {A = Option ℕ} by None) ≡ length (slots ++ replicate by None)
    sizes =
        let len = length-append slots (replicate by None) in
        let n : length (replicate {A = Option Row} by None) ≡ by = length-replicate by None in
        let m : length (replicate {A = Option ℕ} by None) ≡ by = length-replicate by None in
        omega (arith, len, n, m)

-- the flags of the free slots
pub free_grown : (slots : List (Option Row)) (by : ℕ) (free : List Bool) → free ≡ map is_none slots → free ++ replicate by true ≡ map is_none (slots ++ replicate by None)
free_grown slots by free e = ap (λ (xs : List Bool). xs ++ replicate by true) e ∙ (ap (λ (xs : List Bool). map is_none slots ++ xs) (sym (all_none by)) ∙ sym (map-append is_none slots (replicate by None)))
  where
    all_none : (n : ℕ) → map is_none (replicate {A = Option Row} n None) ≡ replicate n true
    all_none zero = refl
    all_none (suc n) = ap (λ (xs : List Bool). true ∷ xs) (all_none n)

-- all numbers from the bound that was on are members
pub filled : (base grown done : List Bool) (first end by : ℕ) → first ≡ length base → grown ≡ base ++ replicate by false → end ≡ length grown → length done ≡ length grown → ((k : ℕ) → k < first → has done k ≡ has grown k) → ((k : ℕ) → first ≤ k → k < end → has done k ≡ true) → done ≡ base ++ replicate by true
filled base grown done first end by f g e size before after =
    let len : length grown ≡ length base + length (replicate by false) = ap length g ∙ length-append base (replicate by false) in
    let n : length (replicate by false) ≡ by = length-replicate by false in
    let m : length (replicate by true) ≡ by = length-replicate by true in
    let whole : length (base ++ replicate by true) ≡ length base + length (replicate by true) = length-append base (replicate by true) in
    ext_get_or false done (base ++ replicate by true) (omega (arith, len, n, m, whole, size)) (λ k within.
    ⊎_elim
    (λ (h : k < first).
    before k h ∙ (ap (λ xs. has xs k) g ∙ (get_or_append_left base (replicate by false) false k (omega (arith, f, h)) ∙ sym (get_or_append_left base (replicate by true) false k (omega (arith, f, h))))))
    (λ (h : first ≤ k).
    after k h (omega (arith, within, size, e)) ∙ sym (get_or-append_right base (replicate by true) first k false (sym f) h ∙ get_or-replicate by (k - first) true false (omega (arith, within, size, len, n, f, h))))
    (cases_lt k first))

-- ---- pushes

none_last : {X : Type 0} (n : ℕ) → replicate {A = Option X} (n + 1) None ≡ replicate {A = Option X} n None ++ None ∷ []
none_last {X = X} zero = refl
none_last {X = X} (suc n) = let e : suc n + 1 ≡ suc (n + 1) = omega arith in ap (λ m. replicate {A = Option X} m None) e ∙ ap (λ (xs : List (Option X)). None ∷ xs) (none_last n)

pub none_more : {X : Type 0} (base old new : List (Option X)) (n : ℕ) → old ≡ base ++ replicate n None → new ≡ old ++ None ∷ [] → new ≡ base ++ replicate (n + 1) None
none_more base old new n e p = p ∙ (ap (λ xs. xs ++ None ∷ []) e ∙ (append_assoc base (replicate n None) (None ∷ []) ∙ ap (λ xs. base ++ xs) (sym (none_last n))))

-- ---- room

pub room_kept : (room : ℕ) (index index' : Index) → HasRoom room index → KeepsSize index index' → HasRoom room index'
room_kept room index index' r size = record {
  forward = (let a = r.forward in let l = size.forward_len in let c = size.forward_room in omega (arith, a, l, c));
  backward = (let a = r.backward in let l = size.backward_len in let c = size.backward_room in omega (arith, a, l, c));
}

pub room_grown : (room by : ℕ) (index index' : Index) → by ≤ room → HasRoom room index → IsGrown by index index' → HasRoom (room - by) index'
room_grown room by index index' h r grown = record {
  forward = (let a = r.forward in let l = grown.forward_len in let c = grown.forward_room in omega (arith, h, a, l, c));
  backward = (let a = r.backward in let l = grown.backward_len in let c = grown.backward_room in omega (arith, h, a, l, c));
}
