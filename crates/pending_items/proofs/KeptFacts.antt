-- What the rows that are kept tell, and those of no lines.
use Rattle.std.proofs.Common.{◌≡◌, ℕ, zero, suc, ◌+◌, ◌<◌, ◌≤◌, true, false, List, [], Option, Some, None, length, replicate, refl, sym, ap, ◌∙◌, subst, arith}
use Rattle.std.specs.Prelude.{is_some, slice_index_or, unwrap_or}
use Rattle.std.specs.List.{Contains, filter}
use Rattle.std.specs.Option.{option_or}
use Rattle.std.proofs.lemmas.Bool.{and_right, false_from_ne_true}
use Rattle.std.proofs.lemmas.List.{get_or_past, length-replicate}
use Rattle.batch_records.specs.DayRecord.{Day}
use Rattle.batch_records.specs.Sound.{is_sound}
use Rattle.commit_journal.specs.Line.{History}
use Rattle.machine.specs.declared.answers.Item.{Item}
use Rattle.machine.specs.Records.Messages.{sort_of}
use Rattle.machine.specs.Telling.History.{place_of}
use Rattle.machine.specs.Stages.Pending.{Standing, is_pending, standing}
use Rattle.machine.specs.Stages.Blockers.{first_blocker}
use Rattle.settlement_laws.proofs.Base.Lists.{never}
use Rattle.settlement_laws.proofs.Wants.PlacesDiffer.{pending_taken}
use Rattle.payment_queue.specs.declared.row.Place.{Place}
use Rattle.payment_queue.specs.declared.row.Priority.{Priority}
use Rattle.payment_queue.specs.declared.row.Row.{Row}
use Rattle.payment_queue.specs.declared.row.Heads.{Heads}
use Rattle.payment_queue.specs.declared.row.Priority.TheVariants.{Urgent, High}
use Rattle.payment_queue.specs.Queued.{foremost, head, heads, row_in, rows}
use Rattle.payment_queue.specs.QueueLaws.{ForemostIsFirst}
use Rattle.payment_queue.specs.Indexed.{row_at}
use Rattle.payment_queue.proofs.Slots.{contains_standing, none_standing, row_is, slot_of_standing}
use Rattle.pending_items.specs.Numbers.{is_item, number, number_count, number_in, starts_of}
use Rattle.pending_items.specs.Parts.{account_of, is_part, band, place_at, priority_of, row_of, waits, whole}
use Rattle.pending_items.specs.Heads.{IsHeadOn, ahead_by, blocker_by, head_by}
use Rattle.pending_items.specs.Items.{Fits, IsSound, KeepsRows, Lists, number_of_row, slot_at, slot_of, taken_slots}
use Rattle.pending_items.proofs.NumberFacts.{IsItem, item_parts, from_parts, number_is, number_within, one_number}
use Rattle.pending_items.proofs.PartFacts.{band_small}
use Rattle.pending_items.proofs.SoundFacts.{number_of, row_stands}
use Rattle.pending_items.proofs.HeadFacts.{AreRows, blocker_is, head_is, head_is_on, in_band}

module _ (day : Day) (sound : is_sound day ≡ true) (J : History) (v : Lists) (k : KeepsRows day J v) where
  same_number : (a b : ℕ) → Some a ≡ Some b → a ≡ b
  same_number a b e = cc

  read : (y : Item) → is_item day y ≡ true → number_in v.starts y ≡ number day y
  read y iy = ap (λ s. number_in s y) k.fits.starts ∙ number_is day y sound (item_parts day y iy)

  row_kept : (x : Item) → is_item day x ≡ true → (s : ℕ) → slot_of v x ≡ Some s → (r : Row) → row_in v.queue.slots s ≡ Some r → r ≡ row_of day J x
  row_kept x ix s e r at =
      let own = k.fits.rows s r at in
      let entry : r.place.entry ≡ number_in v.starts x = same_number _ _ (sym (ap number_of_row at) ∙ k.fits.sound.forth (number_in v.starts x) s e) in
      let one : r.item ≡ x = one_number day r.item x (item_parts day r.item own.0) (item_parts day x ix)
      (sym (read r.item own.0) ∙ (sym (number_of v k.fits.sound s r at) ∙ (entry ∙ read x ix))) in
      own.1 ∙ ap (row_of day J) one

  pub rows_are : AreRows day J (rows v.queue)
  rows_are = record { each = each; all = λ x ix w. there x ix (slot_of v x) refl (k.right x (from_parts day x ix) ∙ w) }
    where
      each : (r : Row) → Contains (rows v.queue) r → IsItem day r.item × (waits day J r.item ≡ true) × (r ≡ row_of day J r.item)
      each r c =
          let at = slot_of_standing v.queue.slots r c in
          let own = k.fits.rows at.0 r at.1 in
          (item_parts day r.item own.0, sym (k.right r.item own.0) ∙ ap is_some (k.fits.sound.back at.0 r at.1), own.1)

      there : (x : Item) → IsItem day x → (o : Option ℕ) → slot_of v x ≡ o → is_some (slot_of v x) ≡ true → Contains (rows v.queue) (row_of day J x)
      there x ix None e h = (let gone : is_some (slot_of v x) ≡ false = ap is_some e in never (is_some (slot_of v x)) h gone)
      there x ix (Some s) e h =
          let at : row_in v.queue.slots s ≡ Some (row_at v.queue.slots s) = row_is v.queue.slots s (row_stands v k.fits.sound (number_in v.starts x) s e) in
          subst (Contains (rows v.queue)) (row_kept x (from_parts day x ix) s e (row_at v.queue.slots s) at) (contains_standing v.queue.slots s (row_at v.queue.slots s) at)

  -- the first blocker by the heads of the queue
  pub first_is : ForemostIsFirst → (x : Item) (a : ℕ) → blocker_by day J x (head (rows v.queue) (a + 1) Urgent) (head (rows v.queue) (a + 1) High) ≡ first_blocker day J x a
  first_is law x a =
      blocker_is day J x a (head (rows v.queue) (a + 1) Urgent) (head (rows v.queue) (a + 1) High)
      (head_is day J (rows v.queue) rows_are a Urgent (foremost (filter (in_band (a + 1) Urgent) (rows v.queue))) (law (filter (in_band (a + 1) Urgent) (rows v.queue))))
      (head_is day J (rows v.queue) rows_are a High (foremost (filter (in_band (a + 1) High) (rows v.queue))) (law (filter (in_band (a + 1) High) (rows v.queue))))

  -- the head of an account by those of the queue
  pub head_tells : ForemostIsFirst → (a : ℕ) (h : Heads) → h ≡ heads (rows v.queue) (a + 1) → IsHeadOn day J a (head_by day h.urgent h.high)
  head_tells law a h f = subst (λ (g : Heads). IsHeadOn day J a (head_by day g.urgent g.high)) (sym f) (head_is_on day J a _ _
      (head_is day J (rows v.queue) rows_are a Urgent (foremost (filter (in_band (a + 1) Urgent) (rows v.queue))) (law (filter (in_band (a + 1) Urgent) (rows v.queue))))
      (head_is day J (rows v.queue) rows_are a High (foremost (filter (in_band (a + 1) High) (rows v.queue))) (law (filter (in_band (a + 1) High) (rows v.queue)))))

  heads_tell : ForemostIsFirst → (x : Item) (a : ℕ) (t : Standing) (h : Heads) → t ≡ standing day J x → h ≡ heads (rows v.queue) (a + 1) → option_or (ahead_by day J t h.urgent) (ahead_by day J t h.high) ≡ first_blocker day J x a
  heads_tell law x a t h e f = (λ i. option_or (ahead_by day J (e i) (f i).urgent) (ahead_by day J (e i) (f i).high)) ∙ first_is law x a

  pub urgent_tells : ForemostIsFirst → (x : Item) (a : ℕ) (t : Standing) (h : Heads) → t ≡ standing day J x → h ≡ heads (rows v.queue) (a + 1) → (y : Item) → Some y ≡ ahead_by day J t h.urgent → Some y ≡ first_blocker day J x a
  urgent_tells law x a t h e f y g = ap (λ o. option_or o (ahead_by day J t h.high)) g ∙ heads_tell law x a t h e f

  pub high_tells : ForemostIsFirst → (x : Item) (a : ℕ) (t : Standing) (h : Heads) → t ≡ standing day J x → h ≡ heads (rows v.queue) (a + 1) → (o : Option Item) → None ≡ ahead_by day J t h.urgent → o ≡ ahead_by day J t h.high → o ≡ first_blocker day J x a
  high_tells law x a t h e f o none g = g ∙ (ap (λ u. option_or u (ahead_by day J t h.high)) none ∙ heads_tell law x a t h e f)

-- ---- no lines

none_at : {X : Type 0} (n i : ℕ) → slice_index_or (replicate {A = Option X} n None) i None ≡ None
none_at zero i = get_or_past [] i None (omega arith)
none_at (suc n) zero = refl
none_at (suc n) (suc i) = none_at n i

none_taken : (n : ℕ) → taken_slots (replicate n None) ≡ 0
unfolding taken_slots
none_taken zero = refl
none_taken (suc n) = none_taken n

pub none_sound : (starts : List ℕ) (accounts n room more : ℕ) → IsSound (record { starts = starts; slots = replicate n None; queue = record { slots = replicate n None; accounts = accounts; room = more }; accounts = accounts; room = room })
none_sound starts accounts n room more = record {
  forth = λ i s e. gone (slot_at (replicate n None) i) s (none_at n i) e;
  back = λ s r e. gone (row_in (replicate n None) s) r (none_at n s) e;
  count = ap length (none_standing n) ∙ sym (none_taken n);
  room = length-replicate n None ∙ sym (length-replicate n None);
  accounts = refl;
  there = λ s r e. gone (row_in (replicate n None) s) r (none_at n s) e;
}
  where
    gone : {X Y : Type 0} (o : Option X) (x : X) → o ≡ None → o ≡ Some x → Y
    gone o x a b = cc

none_waits : (day : Day) (x : Item) → waits day [] x ≡ false
unfolding place_of
none_waits day x = and_right (is_part day x) (is_pending day [] (whole day x)) (false_from_ne_true (is_pending day [] (whole day x)) (λ h. never false (pending_taken day [] (whole day x) h) refl))

pub none_kept : (day : Day) (bands room more : ℕ) (v : Lists) → length day.accounts + 1 ≤ bands → v ≡ record { starts = starts_of day; slots = replicate (number_count day) None; queue = record { slots = replicate (number_count day) None; accounts = bands; room = more }; accounts = bands; room = room } → KeepsRows day [] v
none_kept day bands room more v enough e = subst (KeepsRows day []) (sym e) (record {
  fits = record {
    sound = none_sound (starts_of day) bands (number_count day) room more;
    starts = refl;
    items = length-replicate (number_count day) None;
    accounts = enough;
    rows = λ s r e. gone (row_in (replicate (number_count day) None) s) r (none_at (number_count day) s) e;
  };
  right = λ x ix. ap is_some (none_at (number_count day) (number_in (starts_of day) x)) ∙ sym (none_waits day x);
})
  where
    gone : {X Y : Type 0} (o : Option X) (x : X) → o ≡ None → o ≡ Some x → Y
    gone o x a b = cc

-- ---- the row that enters

module _ (day : Day) (sound : is_sound day ≡ true) (J : History) (v : Lists) (f : Fits day J v) (x : Item) (ix : is_item day x ≡ true) (i : ℕ) (at : i ≡ number_in v.starts x) where
  own_number : i ≡ number day x
  own_number = at ∙ (ap (λ s. number_in s x) f.starts ∙ number_is day x sound (item_parts day x ix))

  pub number_inside : i < length v.slots
  number_inside =
      let less : number day x < number_count day = number_within day x (item_parts day x ix) in
      let items : length v.slots ≡ number_count day = f.items in
      let is : i ≡ number day x = own_number in
      omega (arith, less, items, is)

  pub account_inside : (a : ℕ) → account_of day x ≡ Some a → a < v.accounts
  account_inside a e =
      let on : band day x ≡ a + 1 = ap (λ (o : Option ℕ). unwrap_or o 0 + 1) e in
      let small : band day x ≤ length day.accounts + 1 = band_small day x in
      let all : length day.accounts + 1 ≤ v.accounts = f.accounts in
      omega (arith, on, small, all)

  pub row_entered : (a : ℕ) (p : Place) (q : Priority) → account_of day x ≡ Some a → p ≡ place_at day J x i → q ≡ priority_of (sort_of day x.msg) day x.msg → record { account = a + 1; item = x; priority = q; place = p } ≡ row_of day J x
  row_entered a p q e ep eq = λ t. record {
    account = sym (ap (λ (o : Option ℕ). unwrap_or o 0 + 1) e) t;
    item = x;
    priority = eq t;
    place = (ep ∙ ap (place_at day J x) own_number) t;
  }
