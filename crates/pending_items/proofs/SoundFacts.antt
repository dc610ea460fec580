-- Slots of items and rows at slots, with one row more and one row less.
use Rattle.std.proofs.Common.{◌≡◌, ◌≢◌, ℕ, zero, suc, ◌+◌, ◌<◌, ◌≤◌, true, false, ◌&&◌, List, [], ◌∷◌, Option, Some, None, length, set, refl, sym, ap, ◌∙◌, inl, inr, arith}
use Rattle.std.specs.Prelude.{nat_eq, nat_le, is_some}
use Rattle.std.proofs.lemmas.Bool.{and_parts, cases_eq, cases_lt, eqb-true, false_from_ne_true}
use Rattle.std.proofs.lemmas.List.{get_or_past, get_or-set_same, get_or-set_other, length-set}
use Rattle.machine.specs.declared.answers.Item.{Item}
use Rattle.payment_queue.specs.declared.row.Row.{Row}
use Rattle.payment_queue.specs.declared.row.Place.{Place}
use Rattle.payment_queue.specs.Standing.{is_item, same_item, same_place}
use Rattle.payment_queue.specs.Queued.{cleared, has_place, placed, row_in, rows, stands_on}
use Rattle.payment_queue.proofs.Slots.{live_slot, none_any, one_less, one_more, row_other, row_same}
use Rattle.pending_items.specs.Numbers.{number_in}
use Rattle.pending_items.specs.Items.{IsSound, Lists, entered_at, left, number_of_row, slot_at, taken_slots}

same_number : (s t : ℕ) → Some s ≡ Some t → s ≡ t
same_number s t e = cc

-- ---- how many items have a slot

pub within_slots : (slots : List (Option ℕ)) (i s : ℕ) → slot_at slots i ≡ Some s → i < length slots
within_slots slots i s e = elim (cases_lt i (length slots)) [
  | inl less ↦ less
  | inr ge ↦ (let none : slot_at slots i ≡ None = get_or_past slots i None ge in cc)
]

few_taken : (slots : List (Option ℕ)) → taken_slots slots ≤ length slots
unfolding taken_slots
few_taken [] = omega arith
few_taken (None ∷ slots) = let ih = few_taken slots in omega (arith, ih)
few_taken (Some s ∷ slots) = let ih = few_taken slots in omega (arith, ih)

one_free : (slots : List (Option ℕ)) (i : ℕ) → i < length slots → slot_at slots i ≡ None → taken_slots slots < length slots
unfolding taken_slots
one_free [] i less e = absurd (omega (arith, less))
one_free (None ∷ slots) i less e = let h = few_taken slots in omega (arith, h)
one_free (Some s ∷ slots) zero less e = cc
one_free (Some s ∷ slots) (suc i) less e = let ih = one_free slots i (omega (arith, less)) e in omega (arith, ih)

one_taken : (slots : List (Option ℕ)) (i s : ℕ) → i < length slots → slot_at slots i ≡ None → taken_slots (set slots i (Some s)) ≡ taken_slots slots + 1
unfolding taken_slots
one_taken [] i s less e = absurd (omega (arith, less))
one_taken (None ∷ slots) zero s less e = omega arith
one_taken (Some t ∷ slots) zero s less e = cc
one_taken (None ∷ slots) (suc i) s less e = one_taken slots i s (omega (arith, less)) e
one_taken (Some t ∷ slots) (suc i) s less e = let ih = one_taken slots i s (omega (arith, less)) e in omega (arith, ih)

one_left : (slots : List (Option ℕ)) (i s : ℕ) → slot_at slots i ≡ Some s → taken_slots (set slots i None) + 1 ≡ taken_slots slots
unfolding taken_slots
one_left [] i s e = (let none : slot_at [] i ≡ None = get_or_past [] i None (omega arith) in cc)
one_left (None ∷ slots) zero s e = cc
one_left (Some t ∷ slots) zero s e = omega arith
one_left (None ∷ slots) (suc i) s e = one_left slots i s e
one_left (Some t ∷ slots) (suc i) s e = let ih = one_left slots i s e in omega (arith, ih)

-- ---- what is so of sound lists

-- the place of a row ends with the number of its item
pub number_of : (v : Lists) → IsSound v → (s : ℕ) (r : Row) → row_in v.queue.slots s ≡ Some r → r.place.entry ≡ number_in v.starts r.item
number_of v k s r e = same_number _ _ (sym (ap number_of_row e) ∙ k.forth (number_in v.starts r.item) s (k.back s r e))

none_there : (v : Lists) → IsSound v → (i : ℕ) → slot_at v.slots i ≡ None → (s : ℕ) (r : Row) → row_in v.queue.slots s ≡ Some r → number_in v.starts r.item ≡ i → ⊥
none_there v k i none s r e n = (let some : slot_at v.slots i ≡ Some s = ap (slot_at v.slots) (sym n) ∙ k.back s r e in cc)

is_it : (x y : Item) → same_item x y ≡ true → x ≡ y
is_it x y h =
    let p = and_parts (nat_eq x.msg y.msg) (nat_eq x.entry y.entry) h in
    (λ i. record { msg = eqb-true x.msg y.msg p.0 i; entry = eqb-true x.entry y.entry p.1 i })

some_row : (o : Option Row) (i : ℕ) → number_of_row o ≡ Some i → is_some o ≡ true
some_row None i h = cc
some_row (Some r) i h = refl

-- a row stands at the slot of an item
pub row_stands : (v : Lists) → IsSound v → (i s : ℕ) → slot_at v.slots i ≡ Some s → is_some (row_in v.queue.slots s) ≡ true
row_stands v k i s e = some_row (row_in v.queue.slots s) i (k.forth i s e)

pub absent : (v : Lists) → IsSound v → (a i : ℕ) (x : Item) → i ≡ number_in v.starts x → slot_at v.slots i ≡ None → stands_on (rows v.queue) a x ≡ false
absent v k a i x n none = none_any v.queue.slots (is_item a x) (λ s r e. false_from_ne_true (is_item a x r)
    (λ h. none_there v k i none s r e (ap (number_in v.starts) (is_it r.item x (and_parts (nat_eq r.account a) (same_item r.item x) h).1) ∙ sym n)))

pub place_free : (v : Lists) → IsSound v → (a i : ℕ) (p : Place) → p.entry ≡ i → slot_at v.slots i ≡ None → has_place (rows v.queue) a p ≡ false
place_free v k a i p n none = none_any v.queue.slots (λ r. nat_eq r.account a && same_place r.place p) (λ s r e. false_from_ne_true (nat_eq r.account a && same_place r.place p)
    (λ h. none_there v k i none s r e (sym (number_of v k s r e) ∙ (eqb-true r.place.entry p.entry (and_parts (nat_eq r.place.active p.active && nat_eq r.place.intake p.intake) (nat_eq r.place.entry p.entry) (and_parts (nat_eq r.account a) (same_place r.place p) h).1).1 ∙ n))))

pub spare : (v : Lists) → IsSound v → (i : ℕ) → i < length v.slots → slot_at v.slots i ≡ None → length (rows v.queue) < length v.queue.slots
spare v k i less none =
    let few : taken_slots v.slots < length v.slots = one_free v.slots i less none in
    let count : length (rows v.queue) ≡ taken_slots v.slots = k.count in
    let room : length v.queue.slots ≡ length v.slots = k.room in
    omega (arith, few, count, room)

-- ---- one row more

pub sound_entered : (v : Lists) → IsSound v → (i s : ℕ) (row : Row) → i < length v.slots → slot_at v.slots i ≡ None → s < length v.queue.slots → row_in v.queue.slots s ≡ None →
    number_in v.starts row.item ≡ i → row.place.entry ≡ i → nat_le row.item.msg (length v.starts) ≡ true → IsSound (entered_at v i s row)
sound_entered v k i s row less none within free own entry known = record { forth = forth; back = back; count = count; room = room; accounts = k.accounts; there = there }
  where
    forth : (j t : ℕ) → slot_at (set v.slots i (Some s)) j ≡ Some t → number_of_row (row_in (set v.queue.slots s (Some row)) t) ≡ Some j
    forth j t e = elim (cases_eq j i) [
      | inl same ↦ (
          let at : slot_at (set v.slots i (Some s)) j ≡ Some s = ap (slot_at (set v.slots i (Some s))) same ∙ get_or-set_same v.slots i (Some s) None less in
          let slot : t ≡ s = same_number t s (sym e ∙ at) in
          ap (λ u. number_of_row (row_in (set v.queue.slots s (Some row)) u)) slot ∙ ap number_of_row (row_same v.queue.slots s (Some row) within) ∙ ap Some (entry ∙ sym same))
      | inr ne ↦ (
          let was : slot_at v.slots j ≡ Some t = sym (get_or-set_other v.slots i j (Some s) None ne) ∙ e in
          let before : number_of_row (row_in v.queue.slots t) ≡ Some j = k.forth j t was in
          let other : t ≢ s = λ same. taken t j before (ap (row_in v.queue.slots) same ∙ free) in
          ap number_of_row (row_other v.queue.slots s (Some row) t other) ∙ before)
    ]
      where
        taken : (t j : ℕ) → number_of_row (row_in v.queue.slots t) ≡ Some j → row_in v.queue.slots t ≡ None → ⊥
        taken t j h e = (let gone : number_of_row (row_in v.queue.slots t) ≡ None = ap number_of_row e in cc)

    back : (t : ℕ) (r : Row) → row_in (set v.queue.slots s (Some row)) t ≡ Some r → slot_at (set v.slots i (Some s)) (number_in v.starts r.item) ≡ Some t
    back t r e = elim (cases_eq t s) [
      | inl same ↦ (
          let is : Some row ≡ Some r = sym (ap (row_in (set v.queue.slots s (Some row))) same ∙ row_same v.queue.slots s (Some row) within) ∙ e in
          let row_is : row ≡ r = cc in
          ap (λ (q : Row). slot_at (set v.slots i (Some s)) (number_in v.starts q.item)) (sym row_is) ∙ ap (slot_at (set v.slots i (Some s))) own ∙ get_or-set_same v.slots i (Some s) None less ∙ ap Some (sym same))
      | inr ne ↦ (
          let was : row_in v.queue.slots t ≡ Some r = sym (row_other v.queue.slots s (Some row) t ne) ∙ e in
          get_or-set_other v.slots i (number_in v.starts r.item) (Some s) None (λ same. none_there v k i none t r was same) ∙ k.back t r was)
    ]

    count : length (rows (placed v.queue s row)) ≡ taken_slots (set v.slots i (Some s))
    count =
        let a : length (rows (placed v.queue s row)) ≡ length (rows v.queue) + 1 = one_more v.queue.slots s row within free in
        let b : taken_slots (set v.slots i (Some s)) ≡ taken_slots v.slots + 1 = one_taken v.slots i s less none in
        let c : length (rows v.queue) ≡ taken_slots v.slots = k.count in
        omega (arith, a, b, c)

    there : (t : ℕ) (r : Row) → row_in (set v.queue.slots s (Some row)) t ≡ Some r → nat_le r.item.msg (length v.starts) ≡ true
    there t r e = elim (cases_eq t s) [
      | inl same ↦ (
          let is : Some row ≡ Some r = sym (ap (row_in (set v.queue.slots s (Some row))) same ∙ row_same v.queue.slots s (Some row) within) ∙ e in
          let row_is : row ≡ r = cc in
          ap (λ (q : Row). nat_le q.item.msg (length v.starts)) (sym row_is) ∙ known)
      | inr ne ↦ k.there t r (sym (row_other v.queue.slots s (Some row) t ne) ∙ e)
    ]

    room : length (set v.queue.slots s (Some row)) ≡ length (set v.slots i (Some s))
    room = length-set v.queue.slots s (Some row) ∙ (k.room ∙ sym (length-set v.slots i (Some s)))

-- ---- one row less

-- nothing stands at a slot that was cleared
pub none_left : (slots : List (Option Row)) (s : ℕ) → row_in (set slots s None) s ≡ None
none_left slots s = elim (cases_lt s (length slots)) [
  | inl less ↦ row_same slots s None less
  | inr ge ↦ get_or_past (set slots s None) s None (let len : length (set slots s None) ≡ length slots = length-set slots s None in omega (arith, ge, len))
]

pub sound_left : (v : Lists) → IsSound v → (i s : ℕ) → slot_at v.slots i ≡ Some s → IsSound (left v i s)
sound_left v k i s e = record { forth = forth; back = back; count = count; room = room; accounts = k.accounts; there = there }
  where
    less : i < length v.slots
    less = within_slots v.slots i s e

    here : number_of_row (row_in v.queue.slots s) ≡ Some i
    here = k.forth i s e

    within : s < length v.queue.slots
    within = live_slot v.queue.slots s (row_stands v k i s e)

    forth : (j t : ℕ) → slot_at (set v.slots i None) j ≡ Some t → number_of_row (row_in (set v.queue.slots s None) t) ≡ Some j
    forth j t h = elim (cases_eq j i) [
      | inl same ↦ (let gone : slot_at (set v.slots i None) j ≡ None = ap (slot_at (set v.slots i None)) same ∙ get_or-set_same v.slots i None None less in cc)
      | inr ne ↦ (
          let was : slot_at v.slots j ≡ Some t = sym (get_or-set_other v.slots i j None None ne) ∙ h in
          let before : number_of_row (row_in v.queue.slots t) ≡ Some j = k.forth j t was in
          let other : t ≢ s = λ same. ne (same_number j i (sym before ∙ (ap (λ u. number_of_row (row_in v.queue.slots u)) same ∙ here))) in
          ap number_of_row (row_other v.queue.slots s None t other) ∙ before)
    ]

    back : (t : ℕ) (r : Row) → row_in (set v.queue.slots s None) t ≡ Some r → slot_at (set v.slots i None) (number_in v.starts r.item) ≡ Some t
    back t r h = elim (cases_eq t s) [
      | inl same ↦ (let gone : row_in (set v.queue.slots s None) t ≡ None = ap (row_in (set v.queue.slots s None)) same ∙ row_same v.queue.slots s None within in cc)
      | inr ne ↦ (
          let was : row_in v.queue.slots t ≡ Some r = sym (row_other v.queue.slots s None t ne) ∙ h in
          let slot : slot_at v.slots (number_in v.starts r.item) ≡ Some t = k.back t r was in
          let other : number_in v.starts r.item ≢ i = λ same. ne (same_number t s (sym slot ∙ (ap (slot_at v.slots) same ∙ e))) in
          get_or-set_other v.slots i (number_in v.starts r.item) None None other ∙ slot)
    ]

    count : length (rows (cleared v.queue s)) ≡ taken_slots (set v.slots i None)
    count =
        let a : length (rows (cleared v.queue s)) + 1 ≡ length (rows v.queue) = one_less v.queue.slots s (row_stands v k i s e) in
        let b : taken_slots (set v.slots i None) + 1 ≡ taken_slots v.slots = one_left v.slots i s e in
        let c : length (rows v.queue) ≡ taken_slots v.slots = k.count in
        omega (arith, a, b, c)

    there : (t : ℕ) (r : Row) → row_in (set v.queue.slots s None) t ≡ Some r → nat_le r.item.msg (length v.starts) ≡ true
    there t r h = elim (cases_eq t s) [
      | inl same ↦ (let gone : row_in (set v.queue.slots s None) t ≡ None = ap (row_in (set v.queue.slots s None)) same ∙ row_same v.queue.slots s None within in cc)
      | inr ne ↦ k.there t r (sym (row_other v.queue.slots s None t ne) ∙ h)
    ]

    room : length (set v.queue.slots s None) ≡ length (set v.slots i None)
    room = length-set v.queue.slots s None ∙ (k.room ∙ sym (length-set v.slots i None))
