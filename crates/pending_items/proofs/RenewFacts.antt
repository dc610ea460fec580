-- What becomes of the rows as one item's enters or leaves, and as several do one after another.
use Rattle.std.proofs.Common.{◌≡◌, ◌≢◌, ◌⊎◌, ℕ, ◌<◌, Bool, true, false, List, [], ◌∷◌, Option, Some, None, length, set, refl, sym, ap, ◌∙◌, subst, inl, inr, arith}
use Rattle.std.specs.Prelude.{is_some, if◌then◌else◌, nat_le}
use Rattle.std.proofs.lemmas.Bool.{cases_eq, le-leb}
use Rattle.std.proofs.lemmas.List.{get_or-set_same, get_or-set_other, length-set}
use Rattle.batch_records.specs.DayRecord.{Day}
use Rattle.batch_records.specs.Sound.{is_sound}
use Rattle.commit_journal.specs.Line.{History}
use Rattle.machine.specs.declared.answers.Item.{Item}
use Rattle.day_facts.specs.Facts.{Facts, StandsFor}
use Rattle.payment_queue.specs.declared.row.Row.{Row}
use Rattle.payment_queue.specs.Queued.{first_free, row_in, standing}
use Rattle.payment_queue.proofs.Slots.{row_other, row_same}
use Rattle.pending_items.specs.Numbers.{is_item, number, number_count, number_in}
use Rattle.pending_items.specs.Parts.{row_of, waits}
use Rattle.pending_items.specs.Items.{Fits, HasSameRoom, IsRight, Lists, Renews, RenewsBy, entered, left, slot_at, slot_of}
use Rattle.pending_items.proofs.NumberFacts.{item_parts, number_is, number_within, one_number, starts_count}
use Rattle.pending_items.proofs.SoundFacts.{none_left, sound_entered, sound_left, spare}

-- ---- one after another

same_room : (v : Lists) → HasSameRoom v v
same_room v = record { messages = refl; items = refl }

pub none_renewed : (day : Day) (J : History) (which : Item → Type 0) (v : Lists) → Fits day J v → ((x : Item) → is_item day x ≡ true → which x → IsRight day J v x) → Renews day J which v v
none_renewed day J which v f own = record { fits = f; own = own; others = λ x i r. r; spare = same_room v }

pub renewed_then : (day : Day) (facts : Facts) (p q r : History → Item → Type 0) (a b c : Lists) → ((J : History) (x : Item) → is_item day x ≡ true → StandsFor day J facts → r J x → p J x ⊎ q J x) →
    RenewsBy day facts p a b → RenewsBy day facts q b c → RenewsBy day facts r a c
renewed_then day facts p q r a b c split first second = λ J s f.
    let one = first J s f in
    let two = second J s one.fits in
    record {
      fits = two.fits;
      own = λ x i h. elim (split J x i s h) [ inl g ↦ two.others x i (one.own x i g) | inr g ↦ two.own x i g ];
      others = λ x i g. two.others x i (one.others x i g);
      spare = record { messages = two.spare.messages ∙ one.spare.messages; items = two.spare.items ∙ one.spare.items };
    }

pub renewed_more : (day : Day) (facts : Facts) (p r : History → Item → Type 0) (a b : Lists) → ((J : History) (x : Item) → is_item day x ≡ true → StandsFor day J facts → r J x → p J x) →
    RenewsBy day facts p a b → RenewsBy day facts r a b
renewed_more day facts p r a b less first = λ J s f.
    let one = first J s f in
    record { fits = one.fits; own = λ x i h. one.own x i (less J x i s h); others = one.others; spare = one.spare }

pub renewed_none : (day : Day) (facts : Facts) (r : History → Item → Type 0) (v : Lists) → ((J : History) (x : Item) → is_item day x ≡ true → StandsFor day J facts → r J x → ⊥) → RenewsBy day facts r v v
renewed_none day facts r v none = λ J s f. none_renewed day J (r J) v f (λ x i h. absurd (none J x i s h))

pub same_number : (a b : ℕ) → Some a ≡ Some b → a ≡ b
same_number a b e = cc

pub not_named : (o : Option ℕ) (a : ℕ) → o ≡ None → o ≡ Some a → ⊥
not_named o a e f = cc

-- ---- one item

free_first : (slots : List (Option Row)) → length (standing slots) < length slots → (first_free slots < length slots) × (row_in slots (first_free slots) ≡ None)
unfolding standing first_free
free_first [] h = absurd (omega (arith, h))
free_first (None ∷ slots) h = (omega arith, refl)
free_first (Some r ∷ slots) h = let ih = free_first slots (omega (arith, h)) in (omega (arith, ih.0), ih.1)

module _ (day : Day) (sound : is_sound day ≡ true) (J : History) (v : Lists) (f : Fits day J v) (x : Item) (ix : is_item day x ≡ true) (i : ℕ) (at : i ≡ number_in v.starts x) where
  -- the number of an item, as it is read and as it is
  read : (y : Item) → is_item day y ≡ true → number_in v.starts y ≡ number day y
  read y iy = ap (λ s. number_in s y) f.starts ∙ number_is day y sound (item_parts day y iy)

  is_number : i ≡ number day x
  is_number = at ∙ read x ix

  within : i < length v.slots
  within =
      let less : number day x < number_count day = number_within day x (item_parts day x ix) in
      let items : length v.slots ≡ number_count day = f.items in
      let is : i ≡ number day x = is_number in
      omega (arith, less, items, is)

  apart : (y : Item) → is_item day y ≡ true → (x ≡ y → ⊥) → number_in v.starts y ≢ i
  apart y iy ne same = ne (one_number day x y (item_parts day x ix) (item_parts day y iy) (sym is_number ∙ (sym same ∙ read y iy)))

  -- the slot of each other item stays
  other_slot : (o : Option ℕ) (y : Item) → is_item day y ≡ true → number_in v.starts y ≢ i → slot_at (set v.slots i o) (number_in v.starts y) ≡ slot_of v y
  other_slot o y iy ne = get_or-set_other v.slots i (number_in v.starts y) o None ne

  own_slot : (o : Option ℕ) → slot_at (set v.slots i o) (number_in v.starts x) ≡ o
  own_slot o = ap (slot_at (set v.slots i o)) (sym at) ∙ get_or-set_same v.slots i o None within

  -- right for the item itself, and for the others where they were
  right_set : (o : Option ℕ) → is_some o ≡ waits day J x → (y : Item) → is_item day y ≡ true → is_some (slot_of v y) ≡ waits day J y → is_some (slot_at (set v.slots i o) (number_in v.starts y)) ≡ waits day J y
  right_set o h y iy r = elim (cases_eq (number_in v.starts y) i) [
    | inl same ↦ (
        let one : x ≡ y = one_number day x y (item_parts day x ix) (item_parts day y iy) (sym is_number ∙ (sym same ∙ read y iy)) in
        subst (λ (z : Item). is_some (slot_at (set v.slots i o) (number_in v.starts z)) ≡ waits day J z) one (ap is_some (own_slot o) ∙ h))
    | inr ne ↦ ap is_some (other_slot o y iy ne) ∙ r
  ]

  module _ (none : slot_at v.slots i ≡ None) (does : waits day J x ≡ true) where
    abbrev row : Row
    row = row_of day J x

    abbrev slot : ℕ
    slot = first_free v.queue.slots

    free : (slot < length v.queue.slots) × (row_in v.queue.slots slot ≡ None)
    free = free_first v.queue.slots (spare v f.sound i within none)

    there : nat_le x.msg (length v.starts) ≡ true
    there =
        let last = (item_parts day x ix).last in
        let starts : length v.starts ≡ length day.messages = ap length f.starts ∙ starts_count day in
        le-leb x.msg (length v.starts) (omega (arith, last, starts))

    fits_entered : Fits day J (entered v i row)
    fits_entered = record {
      sound = sound_entered v f.sound i slot row within none free.0 free.1 (sym at) (sym is_number) there;
      starts = f.starts;
      items = length-set v.slots i (Some slot) ∙ f.items;
      accounts = f.accounts;
      rows = rows;
    }
      where
        rows : (s : ℕ) (r : Row) → row_in (set v.queue.slots slot (Some row)) s ≡ Some r → (is_item day r.item ≡ true) × (r ≡ row_of day J r.item)
        rows s r e = elim (cases_eq s slot) [
          | inl same ↦ (
              let is : Some row ≡ Some r = sym (ap (row_in (set v.queue.slots slot (Some row))) same ∙ row_same v.queue.slots slot (Some row) free.0) ∙ e in
              let row_is : row ≡ r = cc in
              subst (λ (q : Row). (is_item day q.item ≡ true) × (q ≡ row_of day J q.item)) row_is (ix, refl))
          | inr ne ↦ f.rows s r (sym (row_other v.queue.slots slot (Some row) s ne) ∙ e)
        ]

    pub entered_renews : Renews day J (λ y. y ≡ x) v (entered v i row)
    entered_renews = record {
      fits = fits_entered;
      own = λ y iy same. subst (λ (z : Item). is_some (slot_at (set v.slots i (Some slot)) (number_in v.starts z)) ≡ waits day J z) (sym same) (ap is_some (own_slot (Some slot)) ∙ sym does);
      others = right_set (Some slot) (sym does);
      spare = record { messages = refl; items = refl };
    }

  module _ (s : ℕ) (some : slot_at v.slots i ≡ Some s) where
    pub left_renews : waits day J x ≡ false → Renews day J (λ y. y ≡ x) v (left v i s)
    left_renews not_so = record {
      fits = record {
        sound = sound_left v f.sound i s some;
        starts = f.starts;
        items = length-set v.slots i None ∙ f.items;
        accounts = f.accounts;
        rows = rows;
      };
      own = λ y iy same. subst (λ (z : Item). is_some (slot_at (set v.slots i None) (number_in v.starts z)) ≡ waits day J z) (sym same) (ap is_some (own_slot None) ∙ sym not_so);
      others = right_set None (sym not_so);
      spare = record { messages = refl; items = refl };
    }
      where
        rows : (t : ℕ) (r : Row) → row_in (set v.queue.slots s None) t ≡ Some r → (is_item day r.item ≡ true) × (r ≡ row_of day J r.item)
        rows t r e = elim (cases_eq t s) [
          | inl same ↦ gone (row_in (set v.queue.slots s None) t) (cleared_slot t same) e
          | inr ne ↦ f.rows t r (sym (row_other v.queue.slots s None t ne) ∙ e)
        ]
          where
            cleared_slot : (t : ℕ) → t ≡ s → row_in (set v.queue.slots s None) t ≡ None
            cleared_slot t same = ap (row_in (set v.queue.slots s None)) same ∙ none_left v.queue.slots s

            gone : {X : Type 0} (o : Option Row) → o ≡ None → o ≡ Some r → X
            gone o a b = cc

  stays_renews : is_some (slot_of v x) ≡ waits day J x → Renews day J (λ y. y ≡ x) v v
  stays_renews r = none_renewed day J (λ y. y ≡ x) v f (λ y iy same. subst (λ (z : Item). is_some (slot_of v z) ≡ waits day J z) (sym same) r)

  -- where it had a slot
  pub some_renews : (s : ℕ) (b : Bool) (new : Lists) → slot_at v.slots i ≡ Some s → b ≡ waits day J x → new ≡ (if b then v else left v i s) → Renews day J (λ y. y ≡ x) v new
  some_renews s true new some is e = subst (Renews day J (λ y. y ≡ x) v) (sym e) (stays_renews (ap (λ n. is_some (slot_at v.slots n)) (sym at) ∙ (ap is_some some ∙ is)))
  some_renews s false new some is e = subst (Renews day J (λ y. y ≡ x) v) (sym e) (left_renews s some (sym is))

  -- where it had none
  pub none_renews : (new : Lists) → slot_at v.slots i ≡ None → new ≡ (if waits day J x then entered v i (row_of day J x) else v) → Renews day J (λ y. y ≡ x) v new
  none_renews new none e = here (waits day J x) refl
    where
      here : (b : Bool) → waits day J x ≡ b → Renews day J (λ y. y ≡ x) v new
      here true w = subst (Renews day J (λ y. y ≡ x) v) (sym (e ∙ ap (λ b. if b then entered v i (row_of day J x) else v) w)) (entered_renews none w)
      here false w = subst (Renews day J (λ y. y ≡ x) v) (sym (e ∙ ap (λ b. if b then entered v i (row_of day J x) else v) w)) (stays_renews (ap (λ n. is_some (slot_at v.slots n)) (sym at) ∙ (ap is_some none ∙ sym w)))
