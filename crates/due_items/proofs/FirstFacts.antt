-- The first item that is due, and its want.
use Rattle.std.proofs.Common.{◌≡◌, ◌∙◌, ℕ, zero, suc, ◌+◌, ◌<◌, ◌≤◌, Bool, true, false, ◌&&◌, cond, List, Option, Some, None, length, refl, sym, ap, subst, arith, ◌⊎◌, inl, inr}
use Rattle.std.specs.Prelude.{nat_eq, nat_lt, slice_get}
use Rattle.std.specs.List.{find, list_any, range_with_len}
use Rattle.std.proofs.lemmas.Bool.{and_from, cases_eq, cases_lt, false_from_ne_true, leb-true, le-leb, lt-ltb, ltb-true, or_left, or_right}
use Rattle.std.proofs.lemmas.List.{get_or_past}
use Rattle.batch_records.specs.DayRecord.{Day}
use Rattle.commit_journal.specs.declared.line.Want.{Want}
use Rattle.commit_journal.specs.Line.{History}
use Rattle.machine.specs.declared.answers.Item.{Item}
use Rattle.machine.specs.Records.Messages.{entries, item_numbers, message_numbers}
use Rattle.machine.specs.Stages.Pending.{item}
use Rattle.machine.specs.Orders.Hints.{hint, hint_in, hint_of, is_hinted}
use Rattle.settlement_laws.proofs.Base.Lists.{never}
use Rattle.settlement_laws.proofs.Base.Places.{same-number}
use Rattle.settlement_laws.proofs.Base.Sums.{any-at, any-from}
use Rattle.number_set.specs.Members.{has}
use Rattle.number_set.specs.Next.{IsNext}
use Rattle.scan_laws.specs.Numbers.{IsItem, is_earlier, item_count, item_number, item_of}
use Rattle.scan_laws.proofs.NumberFacts.{item-is, item-there, number-back, number-order, number-within}
use Rattle.due_items.specs.Due.{IsFirstDue, IsLeastDue, due_at, is_due, is_from}
use Rattle.due_items.specs.Index.{Index}
use Rattle.due_items.specs.Kept.{Due, KeepsDue}
use Rattle.due_items.specs.Row.{IsPlace}
use Rattle.due_items.proofs.Noted.{flag_at, flags_length}
use Rattle.due_items.proofs.RowFacts.{item_at}

-- ---- the first item

module _ (day : Day) (J : History) (due : Due) (from : Item) (place : ℕ) (keeps : KeepsDue day J due) (parts : IsPlace day from place) where
  member : (i : ℕ) → i < item_count day → has due.set i ≡ due_at day J i
  member i h = ap (λ (xs : List Bool). has xs i) keeps.exact ∙ flag_at (due_at day J) (item_count day) i h

  -- an item from the place on has its number there
  behind : (n k : ℕ) → IsItem day n k → is_from from n k ≡ true → place ≤ item_number day n k
  behind n k is h =
      let w = number-within day n k is in
      leb-true place (item_number day n k) (parts.parts (item_number day n k) w ∙ (λ t. is_from from (item-there day n k is t).msg (item-there day n k is t).entry) ∙ h)

  by_number : (n k : ℕ) → IsItem day n k → has due.set (item_number day n k) ≡ is_due day J (item n k)
  by_number n k is = member (item_number day n k) (number-within day n k is) ∙ ap (is_due day J) (item-there day n k is)

  pub first_none : IsNext (has due.set) place None → IsFirstDue day J from None
  first_none none n k is h = sym (by_number n k is) ∙ none (item_number day n k) (behind n k is h)

  -- a member is below the count
  within : (i : ℕ) → has due.set i ≡ true → i < item_count day
  within i h = here (cases_lt i (item_count day))
    where
      here : (i < item_count day) ⊎ (item_count day ≤ i) → i < item_count day
      here (inl q) = q
      here (inr q) =
          let len : length due.set ≡ item_count day = ap length keeps.exact ∙ flags_length (due_at day J) (item_count day) in
          never (has due.set i) h (get_or_past due.set i false (omega (arith, len, q)))

  least : (i : ℕ) → IsNext (has due.set) place (Some i) → IsLeastDue day J from (item_of day i)
  least i next =
      let w = within i next.passes in
      let is = item-is day i w in
      record {
        is_item = is;
        behind = sym (parts.parts i w) ∙ le-leb place i next.at_least;
        due = sym (member i w) ∙ next.passes;
        none_before = λ n k item h earlier.
            let order : nat_lt (item_number day n k) i ≡ true = ap (nat_lt (item_number day n k)) (sym (number-back day i w)) ∙ number-order day n k (item_of day i).msg (item_of day i).entry item is ∙ earlier in
            sym (by_number n k item) ∙ next.none_before (item_number day n k) (behind n k item h) (ltb-true (item_number day n k) i order);
      }

  pub first_some : (i : ℕ) (o : Option Item) → IsNext (has due.set) place (Some i) → o ≡ slice_get due.index.row.items i → IsFirstDue day J from o
  first_some i o next e =
      let found : Some (item_of day i) ≡ o = sym (e ∙ ap (λ (x : Index). slice_get x.row.items i) keeps.index ∙ item_at day i (within i next.passes)) in
      subst (IsFirstDue day J from) found (least i next)

-- ---- searches over ranges

find_least : (test : ℕ → Bool) (s len n : ℕ) → s ≤ n → n < s + len → test n ≡ true → ((k : ℕ) → s ≤ k → k < n → test k ≡ false) → find test (range_with_len s len) ≡ Some n
find_least test s zero n low high h before = absurd (omega (arith, low, high))
find_least test s (suc len) n low high h before = here (test s) refl (cases_eq s n) (λ l. find_least test (s + 1) len n l (omega (arith, high)) h (λ k low_k less. before k (omega (arith, low_k)) less))
  where
    here : (b : Bool) → test s ≡ b → (s ≡ n) ⊎ ((s ≡ n) → ⊥) → (s + 1 ≤ n → find test (range_with_len (s + 1) len) ≡ Some n) → cond b (Some s) (find test (range_with_len (s + 1) len)) ≡ Some n
    here true e (inl q) more = ap Some q
    here true e (inr ne) more = never (test s) e (before s (omega arith) (omega (arith, low, ne)))
    here false e (inl q) more = never (test n) h (ap test (sym q) ∙ e)
    here false e (inr ne) more = more (omega (arith, low, ne))

find_nothing : (test : ℕ → Bool) (s len : ℕ) → ((k : ℕ) → s ≤ k → k < s + len → test k ≡ false) → find test (range_with_len s len) ≡ None
find_nothing test s zero none = refl
find_nothing test s (suc len) none = ap (λ b. cond b (Some s) (find test (range_with_len (s + 1) len))) (none s (omega arith) (omega arith)) ∙ find_nothing test (s + 1) len (λ k low high. none k (omega (arith, low)) (omega (arith, high)))

-- ---- the want

module _ (day : Day) (J : History) (from : Item) where
  -- message n has an item that is hinted
  test : ℕ → Bool
  test n = list_any (is_hinted day J from n) (item_numbers day n)

  no_item : (n : ℕ) → ((k : ℕ) → k ≤ length (entries day n) → is_hinted day J from n k ≡ false) → list_any (is_hinted day J from n) (item_numbers day n) ≡ false
  no_item n none = false_from_ne_true (list_any (is_hinted day J from n) (item_numbers day n)) (λ h.
      let r = any-at (is_hinted day J from n) 0 (suc (length (entries day n))) h in
      let high = r.2 in
      never (is_hinted day J from n r.0) r.3 (none r.0 (omega (arith, high))))

  hinted_not : (n k : ℕ) → (is_from from n k ≡ true → is_due day J (item n k) ≡ false) → is_hinted day J from n k ≡ false
  hinted_not n k h = here (is_from from n k) h
    where
      here : (b : Bool) → (b ≡ true → is_due day J (item n k) ≡ false) → (b && is_due day J (item n k)) ≡ false
      here true f = f refl
      here false f = refl

  pub hint_none : IsFirstDue day J from None → None ≡ hint day J from
  hint_none none = sym (ap (hint_in day J from) (find_nothing (λ n. list_any (is_hinted day J from n) (item_numbers day n)) 1 (length day.messages) (λ n low high.
      no_item n (λ k below. hinted_not n k (λ h. none n k (record { first = low; last = omega (arith, high); entry = below }) h)))))

  pub hint_some : (x : Item) → IsLeastDue day J from x → hint_of day J x ≡ hint day J from
  hint_some x l = sym (ap (hint_in day J from) message ∙ ap found entry)
    where
      first : 1 ≤ x.msg
      first = l.is_item.first

      last : x.msg ≤ length day.messages
      last = l.is_item.last

      own : is_hinted day J from x.msg x.entry ≡ true
      own = and_from (is_from from x.msg x.entry) _ l.behind l.due

      -- an item of an earlier message, or an earlier one of its own
      earlier : (n k : ℕ) → IsItem day n k → (n < x.msg) ⊎ ((n ≡ x.msg) × (k < x.entry)) → is_hinted day J from n k ≡ false
      earlier n k is o = hinted_not n k (λ h. l.none_before n k is h (stands o))
        where
          stands : (n < x.msg) ⊎ ((n ≡ x.msg) × (k < x.entry)) → is_earlier n k x.msg x.entry ≡ true
          stands (inl q) = or_left (nat_lt n x.msg) _ (lt-ltb n x.msg q)
          stands (inr q) = or_right (nat_lt n x.msg) _ (and_from (nat_eq n x.msg) _ (ap (nat_eq n) (sym q.0) ∙ same-number n) (lt-ltb k x.entry q.1))

      message : find (λ n. list_any (is_hinted day J from n) (item_numbers day n)) (message_numbers day) ≡ Some x.msg
      message = find_least (λ n. list_any (is_hinted day J from n) (item_numbers day n)) 1 (length day.messages) x.msg first (omega (arith, last))
          (any-from (is_hinted day J from x.msg) 0 (suc (length (entries day x.msg))) x.entry (omega arith) (let e = l.is_item.entry in omega (arith, e)) own)
          (λ n low less. no_item n (λ k below. earlier n k (record { first = low; last = omega (arith, less, last); entry = below }) (inl less)))

      entry : find (is_hinted day J from x.msg) (item_numbers day x.msg) ≡ Some x.entry
      entry = find_least (is_hinted day J from x.msg) 0 (suc (length (entries day x.msg))) x.entry (omega arith) (let e = l.is_item.entry in omega (arith, e)) own
          (λ k low less. earlier x.msg k (record { first = first; last = last; entry = let e = l.is_item.entry in omega (arith, less, e) }) (inr (refl, less)))

      found : Option ℕ → Option Want
      found None = None
      found (Some k) = hint_of day J (item x.msg k)
