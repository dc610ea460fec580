-- The rows of a day that goes on.
use Rattle.std.proofs.Common.{◌≡◌, ◌∙◌, ℕ, zero, suc, ◌+◌, ◌-◌, ◌^◌, ◌<◌, ◌≤◌, ◌⊎◌, Bool, true, false, ◌&&◌, List, [], ◌∷◌, ◌++◌, Option, Some, None, append_assoc, length, map, min, replicate, refl, sym, ap, subst, inl, inr, arith}
use Rattle.std.specs.Prelude.{if◌then◌else◌, is_some, option_map, slice_get, slice_index_or, unwrap_or}
use Rattle.std.specs.List.{range_with_len}
use Rattle.std.specs.Option.{option_map_or}
use Rattle.std.proofs.lemmas.Bool.{and_right, cases_lt, le-leb, leb-true}
use Rattle.std.proofs.lemmas.List.{append-nil, get_or_append_left, get_or_past, get_or-append_right, get_or-replicate, length-append, length-replicate, replicate-append-replicate}
use Rattle.std.proofs.lemmas.List.FromFn.{map-range_with_len_more}
use Rattle.batch_records.specs.DayRecord.{Day}
use Rattle.batch_records.specs.declared.day.Message.{Message}
use Rattle.commit_journal.specs.Line.{History}
use Rattle.machine.specs.declared.answers.Item.{Item}
use Rattle.machine.specs.Words.{numbered}
use Rattle.machine.specs.Records.Messages.{Sort, Pay, debit_account, entries, is_b, sort_of}
use Rattle.machine.specs.Telling.History.{taken}
use Rattle.machine.specs.Stages.Pending.{is_pending, item, standing}
use Rattle.live_order.specs.Longer.{SpeaksOf, longer}
use Rattle.live_order.proofs.Longer.Known.{entries_same, high_same, is_debit_same, part_same, sort_same}
use Rattle.live_order.proofs.Longer.PendingSame.{never_pending, pending_same, standing_same}
use Rattle.live_order.proofs.Longer.Ranges.{numbered_front}
use Rattle.live_order.proofs.Longer.Spoken.{never_taken}
use Rattle.payment_queue.specs.declared.row.Priority.TheVariants.{High, Normal}
use Rattle.payment_queue.specs.declared.row.Row.{Row}
use Rattle.payment_queue.specs.Queued.{row_in, standing as standing_rows}
use Rattle.pending_items.specs.Numbers.{is_item, number_count, number_in, start, starts_of}
use Rattle.pending_items.specs.Parts.{account_of, is_part, priority_of, row_of, waits, whole}
use Rattle.pending_items.specs.Items.{Fits, IsRight, IsSound, KeepsRows, Lists, arrived, number_of_row, slot_at, taken_slots}
use Rattle.pending_items.proofs.NumberFacts.{from_parts, item_parts, start_more, starts_count}

-- ---- lists with nothing more at their ends

pub slots_more : (base old new : List (Option ℕ)) (n : ℕ) → old ≡ base ++ replicate n None → new ≡ old ++ None ∷ [] → new ≡ base ++ replicate (n + 1) None
slots_more base old new n e p =
    p ∙ (ap (λ (xs : List (Option ℕ)). xs ++ None ∷ []) e ∙ (append_assoc base (replicate n None) (None ∷ []) ∙ ap (λ (xs : List (Option ℕ)). base ++ xs) (replicate-append-replicate {A = Option ℕ} n 1 None)))

none_behind : {X : Type 0} (xs : List (Option X)) (n i : ℕ) → slice_index_or (xs ++ replicate n None) i None ≡ slice_index_or xs i None
none_behind {X = X} xs n i = elim (cases_lt i (length xs)) [
  | inl less ↦ get_or_append_left xs (replicate n None) None i less
  | inr le ↦ get_or-append_right xs (replicate n None) (length xs) i None refl le ∙ (none_at (i - length xs) ∙ sym (get_or_past xs i None le))
]
  where
    none_at : (k : ℕ) → slice_index_or (replicate {A = Option X} n None) k None ≡ None
    none_at k = elim (cases_lt k n) [
      | inl less ↦ get_or-replicate n k None None less
      | inr le ↦ (let e : length (replicate {A = Option X} n None) ≡ n = length-replicate n None in get_or_past (replicate n None) k None (omega (arith, e, le)))
    ]

same_standing : (slots : List (Option Row)) (n : ℕ) → standing_rows (slots ++ replicate n None) ≡ standing_rows slots
unfolding standing_rows
same_standing [] zero = refl
same_standing [] (suc n) = same_standing [] n
same_standing (None ∷ slots) n = same_standing slots n
same_standing (Some r ∷ slots) n = ap (λ (xs : List Row). r ∷ xs) (same_standing slots n)

same_taken : (slots : List (Option ℕ)) (n : ℕ) → taken_slots (slots ++ replicate n None) ≡ taken_slots slots
unfolding taken_slots
same_taken [] zero = refl
same_taken [] (suc n) = same_taken [] n
same_taken (None ∷ slots) n = same_taken slots n
same_taken (Some s ∷ slots) n = ap suc (same_taken slots n)

numbered_end : (xs : List ℕ) (x : ℕ) → numbered (xs ++ x ∷ []) (length xs + 1) ≡ Some x
numbered_end xs x = let e : length xs + 1 ≡ suc (length xs) = omega arith in ap (numbered (xs ++ x ∷ [])) e ∙ last xs
  where
    last : (ys : List ℕ) → slice_get (ys ++ x ∷ []) (length ys) ≡ Some x
    last [] = refl
    last (y ∷ ys) = last ys

-- an item of a message whose beginning is there has its number, whatever comes
number_more : (starts : List ℕ) (next : ℕ) (x : Item) → x.msg ≤ length starts → number_in (starts ++ next ∷ []) x ≡ number_in starts x
number_more starts next x low = ap (λ o. min (option_map_or (λ s. s) o 0 + x.entry) (2 ^ 32 - 1)) (numbered_front starts (next ∷ []) x.msg low)

pub sound_arrived : (v : Lists) (items : ℕ) → IsSound v → IsSound (arrived items v)
sound_arrived v items k = record {
  forth = λ i s e. ap number_of_row (none_behind v.queue.slots items s) ∙ k.forth i s (sym (none_behind v.slots items i) ∙ e);
  back = λ s r e.
      (let was : row_in v.queue.slots s ≡ Some r = sym (none_behind v.queue.slots items s) ∙ e in
      none_behind v.slots items (number_in (v.starts ++ length v.slots ∷ []) r.item)
      ∙ (ap (slot_at v.slots) (number_more v.starts (length v.slots) r.item (leb-true r.item.msg (length v.starts) (k.there s r was))) ∙ k.back s r was));
  count = ap length (same_standing v.queue.slots items) ∙ (k.count ∙ sym (same_taken v.slots items));
  room =
      (let a : length (v.queue.slots ++ replicate items None) ≡ length v.queue.slots + length (replicate {A = Option Row} items None) = length-append v.queue.slots (replicate items None) in
      let b : length (v.slots ++ replicate items None) ≡ length v.slots + length (replicate {A = Option ℕ} items None) = length-append v.slots (replicate items None) in
      let c : length (replicate {A = Option Row} items None) ≡ items = length-replicate items None in
      let d : length (replicate {A = Option ℕ} items None) ≡ items = length-replicate items None in
      let r = k.room in
      omega (arith, a, b, c, d, r));
  accounts = k.accounts;
  there = λ s r e.
      (let was = leb-true r.item.msg (length v.starts) (k.there s r (sym (none_behind v.queue.slots items s) ∙ e)) in
      let len : length (v.starts ++ length v.slots ∷ []) ≡ length v.starts + 1 = length-append v.starts (length v.slots ∷ []) in
      le-leb r.item.msg (length (v.starts ++ length v.slots ∷ [])) (omega (arith, was, len)));
}

-- ---- what doesn't change

module _ (day : Day) (ms : List Message) (ss : List ℕ) where
  start_same : (n : ℕ) → n ≤ length day.messages + 1 → start (longer day ms ss) n ≡ start day n
  unfolding start
  start_same zero h = refl
  start_same (suc n) h = λ i. start_same n (omega (arith, h)) i + suc (length (entries_same day ms ss n (omega (arith, h)) i))

  starts_same : map (start (longer day ms ss)) (range_with_len 1 (length day.messages)) ≡ starts_of day
  starts_same = map_alike (start (longer day ms ss)) (start day) 1 (length day.messages) (λ n h. start_same n (omega (arith, h)))
    where
      map_alike : (f g : ℕ → ℕ) (s len : ℕ) → ((n : ℕ) → n < s + len → f n ≡ g n) → map f (range_with_len s len) ≡ map g (range_with_len s len)
      map_alike f g s zero same = refl
      map_alike f g s (suc len) same = λ i. same s (omega arith) i ∷ map_alike f g (s + 1) len (λ n h. same n (omega (arith, h))) i

  item_there : (x : Item) → is_item day x ≡ true → is_item (longer day ms ss) x ≡ true
  item_there x ix =
      let p = item_parts day x ix in
      let last = p.last in
      let len : length (day.messages ++ ms) ≡ length day.messages + length ms = length-append day.messages ms in
      from_parts (longer day ms ss) x (record { first = p.first; last = omega (arith, last, len); within = subst (λ k. x.entry ≤ k) (sym (ap length (entries_same day ms ss x.msg last))) p.within })

  item_was : (x : Item) → x.msg ≤ length day.messages → is_item (longer day ms ss) x ≡ true → is_item day x ≡ true
  item_was x last ix =
      let p = item_parts (longer day ms ss) x ix in
      from_parts day x (record { first = p.first; last = last; within = subst (λ k. x.entry ≤ k) (ap length (entries_same day ms ss x.msg last)) p.within })

  account_same : (x : Item) → x.msg ≤ length day.messages → account_of (longer day ms ss) x ≡ account_of day x
  account_same x h = ap (option_map (debit_account day)) (part_same day ms ss x.msg x.entry h)

  whole_same : (x : Item) → x.msg ≤ length day.messages → whole (longer day ms ss) x ≡ whole day x
  whole_same x h = ap (λ (s : Sort). if is_b s then item x.msg 0 else x) (sort_same day ms ss x.msg h)

  whole_msg : (d : Day) (x : Item) → (whole d x).msg ≡ x.msg
  whole_msg d x = here (is_b (sort_of d x.msg))
    where
      here : (b : Bool) → (if b then item x.msg 0 else x).msg ≡ x.msg
      here true = refl
      here false = refl

  part_is_same : (x : Item) → x.msg ≤ length day.messages → is_part (longer day ms ss) x ≡ is_part day x
  part_is_same x h = λ i. if is_b (sort_same day ms ss x.msg h i) then is_debit_same day ms ss x.msg x.entry h i else is_some (account_same x h i)

  waits_same : (J : History) → SpeaksOf (length day.messages) J → (x : Item) → x.msg ≤ length day.messages → waits (longer day ms ss) J x ≡ waits day J x
  waits_same J speaks x h =
      let low : (whole day x).msg ≤ length day.messages = subst (λ n. n ≤ length day.messages) (sym (whole_msg day x)) h in
      let there : is_pending (longer day ms ss) J (whole (longer day ms ss) x) ≡ is_pending day J (whole day x) = ap (is_pending (longer day ms ss) J) (whole_same x h) ∙ pending_same day ms ss J speaks (whole day x) low in
      λ i. part_is_same x h i && there i

  waits_not : (J : History) (x : Item) → taken J x.msg ≡ None → waits (longer day ms ss) J x ≡ false
  waits_not J x none = and_right (is_part (longer day ms ss) x) (is_pending (longer day ms ss) J (whole (longer day ms ss) x))
      (never_pending (longer day ms ss) J (whole (longer day ms ss) x) (ap (taken J) (whole_msg (longer day ms ss) x) ∙ none))

  priority_is_same : (n : ℕ) → n ≤ length day.messages → priority_of (sort_of (longer day ms ss) n) (longer day ms ss) n ≡ priority_of (sort_of day n) day n
  priority_is_same n h = ap (λ (s : Sort). priority_of s (longer day ms ss) n) (sort_same day ms ss n h) ∙ by_sort (sort_of day n)
    where
      by_sort : (s : Sort) → priority_of s (longer day ms ss) n ≡ priority_of s day n
      by_sort Pay = ap (λ (b : Bool). if b then High else Normal) (high_same day ms ss n h)
      by_sort _ = refl

  row_same : (J : History) (x : Item) → x.msg ≤ length day.messages → row_of (longer day ms ss) J x ≡ row_of day J x
  row_same J x h =
      let low : (whole day x).msg ≤ length day.messages = subst (λ n. n ≤ length day.messages) (sym (whole_msg day x)) h in
      let active = ap (λ y. (standing (longer day ms ss) J y).active) (whole_same x h) ∙ ap (λ s. s.active) (standing_same day ms ss J (whole day x) low) in
      λ i. record {
        account = unwrap_or (account_same x h i) 0 + 1;
        item = x;
        priority = priority_is_same x.msg h i;
        place = record { active = active i; intake = unwrap_or (taken J x.msg) 0; entry = start_same x.msg (omega (arith, h)) i + x.entry };
      }

  rows_same : (J : History) (v : Lists) → Fits day J v → (s : ℕ) (r : Row) → row_in v.queue.slots s ≡ Some r → (is_item (longer day ms ss) r.item ≡ true) × (r ≡ row_of (longer day ms ss) J r.item)
  rows_same J v f s r e =
      let own = f.rows s r e in
      (item_there r.item own.0, own.1 ∙ sym (row_same J r.item (item_parts day r.item own.0).last))

-- ---- a message more, and a stop more

pub rows_arrive : (day : Day) (m : Message) (J : History) (v : Lists) (items : ℕ) → SpeaksOf (length day.messages) J → length v.slots + items < 2 ^ 32 → items ≡ length (entries (longer day (m ∷ []) []) (length day.messages + 1)) + 1 → KeepsRows day J v → KeepsRows (longer day (m ∷ []) []) J (arrived items v)
rows_arrive day m J v items speaks few size k = record {
  fits = record {
    sound = sound_arrived v items k.fits.sound;
    starts = (λ i. (k.fits.starts ∙ sym (starts_same day (m ∷ []) [])) i ++ begin i ∷ []) ∙ (sym (map-range_with_len_more (start later) 1 (length day.messages) (length day.messages + 1) (omega arith)) ∙ ap (λ n. map (start later) (range_with_len 1 n)) (sym count));
    items = sizes;
    accounts = k.fits.accounts;
    rows = λ s r e. rows_same day (m ∷ []) [] J v k.fits s r (sym (none_behind v.queue.slots items s) ∙ e);
  };
  right = λ x ix. right x ix (cases_lt (length day.messages) x.msg);
}
  where
    later : Day
    later = longer day (m ∷ []) []

    count : length later.messages ≡ length day.messages + 1
    count = length-append day.messages (m ∷ [])

    -- where the items of the message begin
    begin : length v.slots ≡ start later (length day.messages + 1)
    begin =
        let one : suc (length day.messages) ≡ length day.messages + 1 = omega arith in
        k.fits.items ∙ (ap (start day) one ∙ sym (start_same day (m ∷ []) [] (length day.messages + 1) (omega arith)))

    sizes : length (v.slots ++ replicate items None) ≡ number_count later
    sizes =
        let len : length (v.slots ++ replicate items None) ≡ length v.slots + length (replicate {A = Option ℕ} items None) = length-append v.slots (replicate items None) in
        let n : length (replicate {A = Option ℕ} items None) ≡ items = length-replicate items None in
        let more : start later (suc (length day.messages + 1)) ≡ start later (length day.messages + 1) + suc (length (entries later (length day.messages + 1))) = start_more later (length day.messages + 1) in
        let same : number_count later ≡ start later (suc (length day.messages + 1)) = ap (λ k. start later (suc k)) count in
        omega (arith, len, n, more, same, begin, size)

    starts_long : length v.starts ≡ length day.messages
    starts_long = ap length k.fits.starts ∙ starts_count day

    right : (x : Item) → is_item later x ≡ true → (length day.messages < x.msg) ⊎ (x.msg ≤ length day.messages) → IsRight later J (arrived items v) x
    right x ix (inr old) =
        ap is_some (none_behind v.slots items (number_in (v.starts ++ length v.slots ∷ []) x) ∙ ap (slot_at v.slots) (number_more v.starts (length v.slots) x (omega (arith, old, starts_long))))
        ∙ (k.right x (item_was day (m ∷ []) [] x old ix) ∙ sym (waits_same day (m ∷ []) [] J speaks x old))
    right x ix (inl new) =
        let last = (item_parts later x ix).last in
        let is : x.msg ≡ length v.starts + 1 = omega (arith, last, count, new, starts_long) in
        let p = (item_parts later x ix).within in
        let same : length (entries later x.msg) ≡ length (entries later (length day.messages + 1)) = ap (λ n. length (entries later n)) (omega_msg last) in
        let number : number_in (v.starts ++ length v.slots ∷ []) x ≡ length v.slots + x.entry = at_end x is (omega (arith, p, same, size, few)) in
        ap is_some (none_behind v.slots items (number_in (v.starts ++ length v.slots ∷ []) x) ∙ get_or_past v.slots (number_in (v.starts ++ length v.slots ∷ []) x) None (omega (arith, number)))
        ∙ sym (waits_not day (m ∷ []) [] J x (never_taken (length day.messages) x.msg J speaks new))
      where
        omega_msg : x.msg ≤ length later.messages → x.msg ≡ length day.messages + 1
        omega_msg last = omega (arith, last, count, new)

        at_end : (x : Item) → x.msg ≡ length v.starts + 1 → length v.slots + x.entry < 2 ^ 32 → number_in (v.starts ++ length v.slots ∷ []) x ≡ length v.slots + x.entry
        at_end x is small =
            ap (λ (o : Option ℕ). min (option_map_or (λ s. s) o 0 + x.entry) (2 ^ 32 - 1)) (ap (numbered (v.starts ++ length v.slots ∷ [])) is ∙ numbered_end v.starts (length v.slots))
            ∙ omega (arith, small)

pub rows_stop : (day : Day) (t : ℕ) (J : History) (v : Lists) → SpeaksOf (length day.messages) J → KeepsRows day J v → KeepsRows (longer day [] (t ∷ [])) J v
rows_stop day t J v speaks k = record {
  fits = record {
    sound = k.fits.sound;
    starts = k.fits.starts ∙ (sym (starts_same day [] (t ∷ [])) ∙ ap (λ n. map (start later) (range_with_len 1 n)) (sym count));
    items = k.fits.items ∙ (sym (start_same day [] (t ∷ []) (suc (length day.messages)) (omega arith)) ∙ ap (λ n. start later (suc n)) (sym count));
    accounts = k.fits.accounts;
    rows = λ s r e. rows_same day [] (t ∷ []) J v k.fits s r e;
  };
  right = λ x ix.
      (let old : x.msg ≤ length day.messages = subst (λ n. x.msg ≤ n) count (item_parts later x ix).last in
      k.right x (item_was day [] (t ∷ []) x old ix) ∙ sym (waits_same day [] (t ∷ []) J speaks x old));
}
  where
    later : Day
    later = longer day [] (t ∷ [])

    count : length later.messages ≡ length day.messages
    count = ap length (append-nil day.messages)
