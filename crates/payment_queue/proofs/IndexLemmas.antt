-- Rows in slots, and their index.
use Rattle.std.proofs.Common.{◌≡◌, ◌≢◌, ◌⊎◌, ℕ, ◌+◌, ◌*◌, ◌-◌, ◌^◌, ◌<◌, ◌≤◌, Bool, true, false, List, Option, Some, None, length, replicate, set, slice_index_or, refl, sym, ap, ◌∙◌, subst, inl, inr, arith}
use Rattle.std.specs.Option.{unwrap_or}
use Rattle.std.proofs.lemmas.Bool.{and_parts, cases_eq, cases_lt, eqb-true, true≢false}
use Rattle.std.proofs.lemmas.Bool.Decides.{nat_tests}
use Rattle.std.proofs.lemmas.List.{get_or_past, get_or-replicate, length-replicate}
use Rattle.machine.specs.declared.answers.Item.{Item}
use Rattle.payment_queue.specs.declared.row.Place.{Place}
use Rattle.payment_queue.specs.declared.row.Row.{Row}
use Rattle.payment_queue.specs.declared.chain.Chain.{Chain}
use Rattle.payment_queue.specs.declared.index.Index.{Index}
use Rattle.payment_queue.specs.Standing.{is_earlier, is_item}
use Rattle.payment_queue.specs.Chains.{AreApart, behind, IsOn, IsChained, IsFirst, IsHooked, IsPut}
use Rattle.payment_queue.specs.Linked.{IsBare, IsInside, step_of}
use Rattle.payment_queue.specs.Links.{IsLinkable}
use Rattle.payment_queue.specs.Indexed.{AreSound, IsEmpty, IsFree, IsIndex, IsLive, IsSmall, blank, key, band, live, position, row_at, row_band, reversed}
use Rattle.payment_queue.proofs.ChainLemmas.{IsReversed, IsLast, apart_reversed, first_behind, inserted, last_reversed, reapart, rechained, refirst, removed, turn}
use Rattle.payment_queue.proofs.Slots.{at_other, at_same, live_other, live_same, live_slot, row_same}

-- ---- places as numbers

earlier_numbers : (a i e a' i' e' : ℕ) → i < 2 ^ 32 → e < 2 ^ 32 → i' < 2 ^ 32 → e' < 2 ^ 32 →
    (a < a' ⊎ ((a ≡ a') × (i < i' ⊎ ((i ≡ i') × (e < e'))))) → (a * 2 ^ 32 + i) * 2 ^ 32 + e < (a' * 2 ^ 32 + i') * 2 ^ 32 + e'
earlier_numbers a i e a' i' e' hi he hi' he' h = omega arith

pub key_below : (p : Place) → IsSmall p → key p < 2 ^ 96
key_below p s = let a = s.active in let i = s.intake in let e = s.entry in omega arith

pub earlier_key : (p q : Place) → IsSmall p → IsSmall q → is_earlier p q ≡ true → key p < key q
earlier_key p q s t h = grind (arith, nat_tests)

pub later_key : (p q : Place) → IsSmall p → IsSmall q → is_earlier p q ≡ false → key q ≤ key p
later_key p q s t h = grind (arith, nat_tests)

pub positions_reversed : (slots : List (Option Row)) → AreSound slots → IsReversed (position slots) (reversed slots)
positions_reversed slots sound = record {
  up = λ u v h. (let e : position slots u < 2 ^ 96 = key_below _ (sound.places u) in let e' : position slots v < 2 ^ 96 = key_below _ (sound.places v) in omega arith);
  down = λ u v h. omega arith;
}

-- ---- what is inside

pub inside : (slots : List (Option Row)) (k : Chain) (l : ℕ → ℕ) (c : ℕ) (at : Option ℕ) → length k.links.items ≡ length slots → c < length k.ends.items → IsOn (live slots) l c at → IsInside k at c
inside slots k l c None e h on = h
inside slots k l c (Some s) e h on = let less : s < length slots = live_slot slots s on.0 in omega arith

-- what can be linked to
pub linkable : (slots : List (Option Row)) (l : ℕ → ℕ) (c : ℕ) (at : Option ℕ) → length slots < 2 ^ 32 → IsOn (live slots) l c at → IsLinkable at
linkable slots l c None few on = tt
linkable slots l c (Some s) few on = let less : s < length slots = live_slot slots s on.0 in omega arith

-- what stands on a band stands
pub live_on : (slots : List (Option Row)) (l : ℕ → ℕ) (c : ℕ) (at : Option ℕ) → IsOn (live slots) l c at → IsLive slots at
live_on slots l c None on = tt
live_on slots l c (Some s) on = on.0

-- ---- items

pub item_same : (a : ℕ) (x : Item) (r : Row) → is_item a x r ≡ true → (r.account ≡ a) × (r.item ≡ x)
item_same a x r h =
    let p = and_parts _ _ h in
    let q = and_parts _ _ p.1 in
    let m : r.item.msg ≡ x.msg = eqb-true _ _ q.0 in
    let e : r.item.entry ≡ x.entry = eqb-true _ _ q.1 in
    (eqb-true _ _ p.0, λ i. record { msg = m i; entry = e i })

-- ---- an index with nothing in it

replicate_all : {A : Type 0} (n i : ℕ) (a : A) → slice_index_or (replicate n a) i a ≡ a
replicate_all n i a = elim (cases_lt i n) [
  | inl less ↦ get_or-replicate n i a a less
  | inr past ↦ get_or_past (replicate n a) i a (let e = length-replicate n a in omega arith)
]

chained_bare : (l pos : ℕ → ℕ) (lv : ℕ → Bool) (k : Chain) → ((u : ℕ) → lv u ≡ false) → IsBare k → IsChained lv l pos (step_of k)
chained_bare l pos lv k none bare = record { each = each }
  where
    empty : (c : ℕ) (o : Option ℕ) → o ≡ None → IsFirst lv l pos c 0 o
    empty c o e = subst (IsFirst lv l pos c 0) (sym e) (record { toward = record { on = tt; reaches = λ u lu ln h. true≢false (sym lu ∙ none u) }; there = tt })

    each : (at : Option ℕ) (c : ℕ) → IsOn lv l c at → IsFirst lv l pos c (behind pos at) (step_of k at c)
    each None c on = empty c (step_of k None c) (ap (λ (xs : List (Option ℕ)). slice_index_or xs c None) bare.ends ∙ replicate_all (length k.ends.items) c None)
    each (Some s) c on = absurd (true≢false (sym on.0 ∙ none s))

pub empty_index : (slots : List (Option Row)) (index : Index) → ((u : ℕ) → live slots u ≡ false) → IsEmpty index → IsIndex slots index
empty_index slots index none e = record {
  forward = chained_bare (band slots) (position slots) (live slots) index.forward none e.forward;
  backward = chained_bare (band slots) (reversed slots) (live slots) index.backward none e.backward;
}

-- ---- one row less

pub unlinked : (slots : List (Option Row)) (index index' : Index) (slot : ℕ) (before after : Option ℕ) → AreSound slots → IsIndex slots index → AreApart (live slots) (band slots) (position slots) →
    live slots slot ≡ true → before ≡ step_of index.backward (Some slot) (band slots slot) → after ≡ step_of index.forward (Some slot) (band slots slot) →
    IsHooked (step_of index.forward) (step_of index'.forward) before (band slots slot) after → IsHooked (step_of index.backward) (step_of index'.backward) after (band slots slot) before →
    IsIndex (set slots slot None) index'
unlinked slots index index' slot before after sound i apart is_in be af hf hb =
    let c : ℕ = band slots slot in
    let new : List (Option Row) = set slots slot None in
    let t : IsReversed (position slots) (reversed slots) = positions_reversed slots sound in
    let gone : live new slot ≡ false = live_same slots slot None (live_slot slots slot is_in) in
    let other : (u : ℕ) → live new u ≡ true → u ≢ slot = λ u lu e. true≢false (sym lu ∙ ap (live new) e ∙ gone) in
    let same : (u : ℕ) → live new u ≡ true → row_at new u ≡ row_at slots u = λ u lu. at_other slots slot None u (other u lu) in
    let first_back : IsFirst (live slots) (band slots) (reversed slots) c (reversed slots slot + 1) before =
    subst (IsFirst (live slots) (band slots) (reversed slots) c (reversed slots slot + 1)) (sym be) (i.backward.each (Some slot) c (is_in, refl)) in
    let first : IsFirst (live slots) (band slots) (position slots) c (position slots slot + 1) after =
    subst (IsFirst (live slots) (band slots) (position slots) c (position slots slot + 1)) (sym af) (i.forward.each (Some slot) c (is_in, refl)) in
    record {
      forward = rechained (live new) (band slots) (position slots) (band new) (position new) (λ u lu. ap row_band (same u lu)) (λ u lu. ap (λ (r : Row). key r.place) (same u lu)) (step_of index'.forward)
          (removed (live slots) (band slots) (position slots) (step_of index.forward) i.forward apart c slot refl (live new) (step_of index'.forward) is_in gone
          (live_other slots slot None) before after (last_reversed (live slots) (band slots) (position slots) (reversed slots) t c slot before first_back) first hf);
      backward = rechained (live new) (band slots) (reversed slots) (band new) (reversed new) (λ u lu. ap row_band (same u lu)) (λ u lu. ap (λ (r : Row). 2 ^ 96 - key r.place) (same u lu)) (step_of index'.backward)
          (removed (live slots) (band slots) (reversed slots) (step_of index.backward) i.backward (apart_reversed (live slots) (band slots) (position slots) (reversed slots) t apart) c slot refl
          (live new) (step_of index'.backward) is_in gone (live_other slots slot None) after before
          (last_reversed (live slots) (band slots) (reversed slots) (position slots) (turn (position slots) (reversed slots) t) c slot after first) first_back hb);
    }

-- ---- one row more

pub sound_set : (slots : List (Option Row)) (slot : ℕ) (o : Option Row) → AreSound slots → slot < length slots → IsSmall (unwrap_or o blank).place → AreSound (set slots slot o)
sound_set slots slot o sound room small = record {
  places = λ s. elim (cases_eq s slot) [
    | inl e ↦ subst (λ (n : ℕ). IsSmall (row_at (set slots slot o) n).place) (sym e) (subst (λ (q : Option Row). IsSmall (unwrap_or q blank).place) (sym (row_same slots slot o room)) small)
    | inr ne ↦ subst (λ (r : Row). IsSmall r.place) (sym (at_other slots slot o s ne)) (sound.places s)
  ];
}

pub linked : (slots : List (Option Row)) (index index' : Index) (slot : ℕ) (row : Row) (before after : Option ℕ) → AreSound slots → IsSmall row.place → IsIndex slots index →
    AreApart (live slots) (band slots) (position slots) → slot < length slots → live slots slot ≡ false → IsFree slots row →
    IsFirst (live slots) (band slots) (reversed slots) (row_band row) (2 ^ 96 - key row.place + 1) before → after ≡ step_of index.forward before (row_band row) →
    IsPut (step_of index.forward) (step_of index'.forward) slot (row_band row) before after → IsPut (step_of index.backward) (step_of index'.backward) slot (row_band row) after before →
    IsIndex (set slots slot (Some row)) index'
linked slots index index' slot row before after sound small i apart room is_out free first_back af pf pb =
    let c : ℕ = row_band row in
    let new : List (Option Row) = set slots slot (Some row) in
    let mine : row_at new slot ≡ row = at_same slots slot row room in
    let band_mine : band new slot ≡ c = ap row_band mine in
    let pos_mine : position new slot ≡ key row.place = ap (λ (r : Row). key r.place) mine in
    let reversed_mine : reversed new slot ≡ 2 ^ 96 - key row.place = ap (λ (r : Row). 2 ^ 96 - key r.place) mine in
    let t : IsReversed (position new) (reversed new) = positions_reversed new (sound_set slots slot (Some row) sound room small) in
    let is_in : live new slot ≡ true = live_same slots slot (Some row) room in
    let other : (u : ℕ) → live slots u ≡ true → u ≢ slot = λ u lu e. true≢false (sym lu ∙ ap (live slots) e ∙ is_out) in
    let same : (u : ℕ) → live slots u ≡ true → row_at new u ≡ row_at slots u = λ u lu. at_other slots slot (Some row) u (other u lu) in
    let bands : (u : ℕ) → live slots u ≡ true → band new u ≡ band slots u = λ u lu. ap row_band (same u lu) in
    let places : (u : ℕ) → live slots u ≡ true → position new u ≡ position slots u = λ u lu. ap (λ (r : Row). key r.place) (same u lu) in
    let turns : (u : ℕ) → live slots u ≡ true → reversed new u ≡ reversed slots u = λ u lu. ap (λ (r : Row). 2 ^ 96 - key r.place) (same u lu) in
    let forward = rechained (live slots) (band slots) (position slots) (band new) (position new) bands places (step_of index.forward) i.forward in
    let backward = rechained (live slots) (band slots) (reversed slots) (band new) (reversed new) bands turns (step_of index.backward) i.backward in
    let apart' = reapart (live slots) (band slots) (position slots) (band new) (position new) bands places apart in
    let first_back' : IsFirst (live slots) (band new) (reversed new) c (reversed new slot + 1) before =
    subst (λ (n : ℕ). IsFirst (live slots) (band new) (reversed new) c (n + 1) before) (sym reversed_mine)
    (refirst (live slots) (band slots) (reversed slots) (band new) (reversed new) bands turns c (2 ^ 96 - key row.place + 1) before first_back) in
    let fresh : (u : ℕ) → live slots u ≡ true → band new u ≡ c → position new u ≢ position new slot =
    λ u lu ln e. free.free u lu (sym (bands u lu) ∙ ln) (sym (places u lu) ∙ e ∙ pos_mine) in
    let last : IsLast (live slots) (band new) (position new) c (position new slot) before = last_reversed (live slots) (band new) (position new) (reversed new) t c slot before first_back' in
    let first : IsFirst (live slots) (band new) (position new) c (position new slot + 1) after =
    subst (IsFirst (live slots) (band new) (position new) c (position new slot + 1)) (sym af)
    (first_behind (live slots) (band new) (position new) (step_of index.forward) forward apart' c slot band_mine fresh before last) in
    record {
      forward = inserted (live slots) (band new) (position new) (step_of index.forward) forward apart' c slot band_mine (live new) pf.between (step_of index'.forward) is_out is_in
          (live_other slots slot (Some row)) before after last first pf.first pf.second;
      backward = inserted (live slots) (band new) (reversed new) (step_of index.backward) backward (apart_reversed (live slots) (band new) (position new) (reversed new) t apart') c slot band_mine
          (live new) pb.between (step_of index'.backward) is_out is_in (live_other slots slot (Some row)) after before
          (last_reversed (live slots) (band new) (reversed new) (position new) (turn (position new) (reversed new) t) c slot after first) first_back' pb.first pb.second;
    }
