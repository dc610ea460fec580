-- What is hinted at: the first item of the day that is named, not before the one asked for, by a want that doesn't move time.
use Rattle.std.proofs.Common.{◌≡◌, ℕ, zero, suc, ◌+◌, ◌<◌, ◌≤◌, Bool, true, false, ◌&&◌, ◌||◌, [], ◌∷◌, length, Option, None, Some, is_some, refl, ap, ◌∙◌, sym, subst, arith, ⊎_elim, inl, inr}
use Rattle.std.specs.Prelude.{cond, IfSome, nat_eq, nat_le, nat_lt, if◌then◌else◌, ◌⊎◌}
use Rattle.std.specs.List.{find, list_any, range_with_len}
use Rattle.std.specs.Option.{option_or}
use Rattle.std.proofs.lemmas.Bool.{and_from, and_parts, cases_eq, cases_lt, eq-eqb, eqb-true, false≢true, le-leb, leb-true, ltb-true, or_cases}
use Rattle.batch_records.specs.DayRecord.{Day}
use Rattle.batch_records.specs.Sound.{is_sound}
use Rattle.commit_journal.specs.declared.line.Want.{Want}
use Rattle.commit_journal.specs.declared.line.Want.TheVariants as wants
use Rattle.commit_journal.specs.Line.{History}
use Rattle.machine.specs.declared.answers.Item.{Item}
use Rattle.machine.specs.declared.answers.Phase.{Phase}
use Rattle.machine.specs.Orders.Hints.{hint, hint_in, hint_of, is_hinted, message_hint, pending_want}
use Rattle.machine.specs.Making.Lines.{is_answered_no, is_answered_yes, is_unanswered, may_ask, may_lapse}
use Rattle.machine.specs.Records.Messages.{Sort, BatchB, entries, is_b, item_numbers, message_numbers, sort_of}
use Rattle.machine.specs.Stages.Pending.{is_pending, item, pending_as}
use Rattle.machine.specs.Stages.Phases.{is_open, is_overdue, phase}
use Rattle.machine.specs.Making.Wants.{entry_of, message_of}
use Rattle.machine.specs.Words.{first_some, is_zero, only_if, when}
use Rattle.rule_book.proofs.FewEntries.{few_entries}
use Rattle.settlement_laws.proofs.Base.Searches.{find_any, find_passes}
use Rattle.lock_book.specs.Steps.{moves_time}

-- the want is one of item (n, k)
pub record IsWantOf (n k : ℕ) (w : Want) : Type 0 where
  pub message : message_of w ≡ n
  pub entry : entry_of w ≡ k
  pub still : moves_time w ≡ false

-- (m, j) isn't before (n, k)
abbrev pub IsFrom : ℕ → ℕ → ℕ → ℕ → Type 0
IsFrom n k m j = (n < m) ⊎ ((n ≡ m) × (k ≤ j))

pub not_before : (n k m j : ℕ) → m ≡ n → IsFrom n k m j → k ≤ j
not_before n k m j of from = ⊎_elim (λ (less : n < m). absurd (omega (arith, less, of))) (λ (p : (n ≡ m) × (k ≤ j)). p.1) from

pub record IsHint (day : Day) (J : History) (from : Item) (w : Want) : Type 0 where
  pub named : hint_of day J (item (message_of w) (entry_of w)) ≡ Some w
  pub message : message_of w ≤ length day.messages
  pub entry : entry_of w ≤ length (entries day (message_of w))
  pub behind : IsFrom from.msg from.entry (message_of w) (entry_of w)
  pub still : moves_time w ≡ false

-- ---- of an item

only_one : (a b c d e : Bool) (n : ℕ) (w : Want) → first_some (when a (wants.Ask n) ∷ when b (wants.Expire n) ∷ when c (wants.Cover n) ∷ when d (wants.Refuse n) ∷ when e (wants.Refuse n) ∷ []) ≡ Some w → IsWantOf n 0 w
only_one true b c d e n w h = let is : wants.Ask n ≡ w = cc in subst (IsWantOf n 0) is (record { message = refl; entry = refl; still = refl })
only_one false true c d e n w h = let is : wants.Expire n ≡ w = cc in subst (IsWantOf n 0) is (record { message = refl; entry = refl; still = refl })
only_one false false true d e n w h = let is : wants.Cover n ≡ w = cc in subst (IsWantOf n 0) is (record { message = refl; entry = refl; still = refl })
only_one false false false true e n w h = let is : wants.Refuse n ≡ w = cc in subst (IsWantOf n 0) is (record { message = refl; entry = refl; still = refl })
only_one false false false false true n w h = let is : wants.Refuse n ≡ w = cc in subst (IsWantOf n 0) is (record { message = refl; entry = refl; still = refl })
only_one false false false false false n w h = cc

of_message : (day : Day) (J : History) (n : ℕ) (w : Want) → message_hint day J n ≡ Some w → IsWantOf n 0 w
of_message day J n w h = only_one (may_ask day J n) (may_lapse (sort_of day n) && is_overdue (phase day J n)) (is_answered_yes day J n) (is_answered_no day J n) (is_unanswered day J n) n w h

zero_is : (k : ℕ) → is_zero k ≡ true → k ≡ 0
zero_is zero h = refl
zero_is (suc k) h = absurd (false≢true h)

-- a batch of B is pending whole
whole_of_b : (s : Sort) (day : Day) (J : History) (n k : ℕ) (p : Phase) → is_b s ≡ true → pending_as s day J n k p ≡ true → k ≡ 0
whole_of_b BatchB day J n k p b h = zero_is k (and_parts (is_zero k) (is_open p) h).0
whole_of_b _ day J n k p b h = absurd (false≢true b)

of_pending : (day : Day) (J : History) (n k : ℕ) → is_pending day J (item n k) ≡ true → IsWantOf n k (pending_want day (item n k))
unfolding is_pending
of_pending day J n k h = by (is_b (sort_of day n)) refl
  where
    by : (b : Bool) → is_b (sort_of day n) ≡ b → IsWantOf n k (if b then wants.All n else wants.Book n k)
    by true e = record { message = refl; entry = sym (whole_of_b (sort_of day n) day J n k (phase day J n) e h); still = refl }
    by false e = record { message = refl; entry = refl; still = refl }

of_item : (day : Day) (J : History) (n k : ℕ) (w : Want) → hint_of day J (item n k) ≡ Some w → IsWantOf n k w
of_item day J n k w h = by (is_pending day J (item n k)) refl h
  where
    at_zero : (b : Bool) → is_zero k ≡ b → only_if b (message_hint day J n) ≡ Some w → IsWantOf n k w
    at_zero true e q = subst (λ (i : ℕ). IsWantOf n i w) (sym (zero_is k e)) (of_message day J n w q)
    at_zero false e q = cc

    by : (b : Bool) → is_pending day J (item n k) ≡ b → option_or (when b (pending_want day (item n k))) (only_if (is_zero k) (message_hint day J n)) ≡ Some w → IsWantOf n k w
    by true e q = let is : pending_want day (item n k) ≡ w = cc in subst (IsWantOf n k) is (of_pending day J n k e)
    by false e q = at_zero (is_zero k) refl q

-- ---- of the day

found_in : (p : ℕ → Bool) (s len i : ℕ) → find p (range_with_len s len) ≡ Some i → (s ≤ i) × (i < s + len)
found_in p s zero i e = cc
found_in p s (suc len) i e = by (λ q. found_in p (s + 1) len i q) (p s) e
  where
    by : (find p (range_with_len (s + 1) len) ≡ Some i → (s + 1 ≤ i) × (i < s + 1 + len)) → (b : Bool) → cond b (Some s) (find p (range_with_len (s + 1) len)) ≡ Some i → (s ≤ i) × (i < s + suc len)
    by more true q = let same : s ≡ i = cc in (omega (arith, same), omega (arith, same))
    by more false q = let r = more q in let low = r.0 in let high = r.1 in (omega (arith, low), omega (arith, high))

from_is : (from : Item) (n k : ℕ) → (nat_lt from.msg n || nat_eq from.msg n && nat_le from.entry k) ≡ true → IsFrom from.msg from.entry n k
from_is from n k h = ⊎_elim
    (λ (less : nat_lt from.msg n ≡ true). inl (ltb-true from.msg n less))
    (λ (same : (nat_eq from.msg n && nat_le from.entry k) ≡ true). let p = and_parts (nat_eq from.msg n) (nat_le from.entry k) same in inr (eqb-true from.msg n p.0, leb-true from.entry k p.1))
    (or_cases (nat_lt from.msg n) (nat_eq from.msg n && nat_le from.entry k) h)

pub is_hint : (day : Day) (J : History) (from : Item) (w : Want) → hint day J from ≡ Some w → IsHint day J from w
is_hint day J from w h = by (find test (message_numbers day)) refl h
  where
    test : ℕ → Bool
    test n = list_any (is_hinted day J from n) (item_numbers day n)

    at : (n : ℕ) → Option ℕ → Option Want
    at n None = None
    at n (Some k) = hint_of day J (item n k)

    in_message : (n : ℕ) → n ≤ length day.messages → (o : Option ℕ) → find (is_hinted day J from n) (item_numbers day n) ≡ o → at n o ≡ Some w → IsHint day J from w
    in_message n high None e q = cc
    in_message n high (Some k) e q =
        let of = of_item day J n k w q in
        let range = found_in (is_hinted day J from n) 0 (suc (length (entries day n))) k e in
        let passes = find_passes (is_hinted day J from n) (item_numbers day n) k e in
        let behind = from_is from n k (and_parts _ (is_some (hint_of day J (item n k))) passes).0 in
        let last = range.1 in
        let entry : k ≤ length (entries day n) = omega (arith, last) in
        record {
          named = (λ (P : ℕ → ℕ → Type 0) (p : P n k). subst (λ (m : ℕ). P m (entry_of w)) (sym of.message) (subst (P n) (sym of.entry) p)) (λ m j. hint_of day J (item m j) ≡ Some w) q;
          message = subst (λ (m : ℕ). m ≤ length day.messages) (sym of.message) high;
          entry = (λ (P : ℕ → ℕ → Type 0) (p : P n k). subst (λ (m : ℕ). P m (entry_of w)) (sym of.message) (subst (P n) (sym of.entry) p)) (λ m j. j ≤ length (entries day m)) entry;
          behind = (λ (P : ℕ → ℕ → Type 0) (p : P n k). subst (λ (m : ℕ). P m (entry_of w)) (sym of.message) (subst (P n) (sym of.entry) p)) (IsFrom from.msg from.entry) behind;
          still = of.still;
        }

    by : (o : Option ℕ) → find test (message_numbers day) ≡ o → hint_in day J from o ≡ Some w → IsHint day J from w
    by None e q = cc
    by (Some n) e q =
        let range = found_in test 1 (length day.messages) n e in
        let high = range.1 in
        in_message n (omega (arith, high)) (find (is_hinted day J from n) (item_numbers day n)) refl (same n ∙ q)
      where
        same : (n : ℕ) → at n (find (is_hinted day J from n) (item_numbers day n)) ≡ hint_in day J from (Some n)
        same n = refl

pub entry_fits : (day : Day) (J : History) (from : Item) (w : Want) → is_sound day ≡ true → IsHint day J from w → entry_of w < 4294967295
entry_fits day J from w sound h = let small = few_entries day (message_of w) sound in let end = h.entry in omega (arith, small, end)

-- ---- what is not hinted at

-- a number of a range fails, where the first that passes is after it, or none does
fails : (p : ℕ → Bool) (s len j : ℕ) → s ≤ j → j < s + len → IfSome (find p (range_with_len s len)) (λ i. j < i) → p j ≡ false
fails p s zero j low high h = absurd (omega (arith, low, high))
fails p s (suc len) j low high h = by (λ from q. fails p (s + 1) len j from (omega (arith, high)) q) (p s) refl h
  where
    by : (s + 1 ≤ j → IfSome (find p (range_with_len (s + 1) len)) (λ i. j < i) → p j ≡ false) → (b : Bool) → p s ≡ b → IfSome (cond b (Some s) (find p (range_with_len (s + 1) len))) (λ i. j < i) → p j ≡ false
    by more true t q = absurd (omega (arith, low, q))
    by more false t q = ⊎_elim
        (λ (e : j ≡ s). ap p e ∙ t)
        (λ (ne : j ≡ s → ⊥). more (omega (arith, low, ne)) q)
        (cases_eq j s)

-- and where no number of it passes
any_fails : (p : ℕ → Bool) (s len j : ℕ) → s ≤ j → j < s + len → list_any p (range_with_len s len) ≡ false → p j ≡ false
any_fails p s len j low high h = fails p s len j low high (none (find p (range_with_len s len)) (find_any p (range_with_len s len) ∙ h))
  where
    none : (o : Option ℕ) → is_some o ≡ false → IfSome o (λ i. j < i)
    none None e = tt
    none (Some i) e = absurd (false≢true (sym e))

without : (o : Option Want) (b : Bool) → b ≡ true → (b && is_some o) ≡ false → o ≡ None
without None b e h = refl
without (Some w) true e h = absurd (false≢true (sym h))
without (Some w) false e h = absurd (false≢true e)

or_second : (a b : Bool) → b ≡ true → (a || b) ≡ true
or_second true b h = refl
or_second false b h = h

-- no item of message n is named, from entry e on and before the one that the hint from there names
pub unnamed : (day : Day) (J : History) (n e k : ℕ) → 0 < n → n ≤ length day.messages → e ≤ k → k ≤ length (entries day n)
    → IfSome (hint day J (item n e)) (λ w. message_of w ≡ n → k < entry_of w) → hint_of day J (item n k) ≡ None
unnamed day J n e k first last low high h = by (find test (message_numbers day)) refl h
  where
    named : ℕ → ℕ → Bool
    named = is_hinted day J (item n e)

    test : ℕ → Bool
    test m = list_any (named m) (item_numbers day m)

    at : ℕ → Option ℕ → Option Want
    at m None = None
    at m (Some j) = hint_of day J (item m j)

    same : (m : ℕ) → at m (find (named m) (item_numbers day m)) ≡ hint_in day J (item n e) (Some m)
    same m = refl

    guard : (nat_lt n n || nat_eq n n && nat_le e k) ≡ true
    guard = or_second (nat_lt n n) (nat_eq n n && nat_le e k) (and_from (nat_eq n n) (nat_le e k) (eq-eqb n n refl) (le-leb e k low))

    passed : named n k ≡ false → hint_of day J (item n k) ≡ None
    passed f = without (hint_of day J (item n k)) (nat_lt n n || nat_eq n n && nat_le e k) guard f

    all_passed : test n ≡ false → hint_of day J (item n k) ≡ None
    all_passed f = passed (any_fails (named n) 0 (suc (length (entries day n))) k (omega arith) (omega (arith, high)) f)

    here : (m j : ℕ) (o : Option Want) → hint_of day J (item m j) ≡ o → is_some o ≡ true → m ≡ n → IfSome o (λ w. message_of w ≡ n → k < entry_of w) → k < j
    here m j None e t is q = absurd (false≢true t)
    here m j (Some w) e t is q =
        let of = of_item day J m j w e in
        let less = q (of.message ∙ is) in
        omega (arith, less, of.entry)

    in_message : (m : ℕ) → m ≤ n → test m ≡ true → (o : Option ℕ) → find (named m) (item_numbers day m) ≡ o → IfSome (at m o) (λ w. message_of w ≡ n → k < entry_of w) → hint_of day J (item n k) ≡ None
    in_message m ge t None f q = absurd (false≢true (ap is_some (sym f) ∙ find_any (named m) (item_numbers day m) ∙ t))
    in_message m ge t (Some j) f q =
        let parts = and_parts (nat_lt n m || nat_eq n m && nat_le e j) (is_some (hint_of day J (item m j))) (find_passes (named m) (item_numbers day m) j f) in
        let is : m ≡ n = ⊎_elim (λ (less : n < m). absurd (omega (arith, less, ge))) (λ (p : (n ≡ m) × (e ≤ j)). sym p.0) (from_is (item n e) m j parts.0) in
        let less : k < j = here m j (hint_of day J (item m j)) refl parts.1 is q in
        passed (fails (named n) 0 (suc (length (entries day n))) k (omega arith) (omega (arith, high))
        (subst (λ (o : Option ℕ). IfSome o (λ i. k < i)) (sym (subst (λ (i : ℕ). find (named i) (item_numbers day i) ≡ Some j) is f)) less))

    by : (o : Option ℕ) → find test (message_numbers day) ≡ o → IfSome (hint_in day J (item n e) o) (λ w. message_of w ≡ n → k < entry_of w) → hint_of day J (item n k) ≡ None
    by None f q = all_passed (fails test 1 (length day.messages) n (omega (arith, first)) (omega (arith, last)) (subst (λ (o : Option ℕ). IfSome o (λ i. n < i)) (sym f) tt))
    by (Some m) f q = ⊎_elim
        (λ (less : n < m). all_passed (fails test 1 (length day.messages) n (omega (arith, first)) (omega (arith, last)) (subst (λ (o : Option ℕ). IfSome o (λ i. n < i)) (sym f) less)))
        (λ (ge : m ≤ n). in_message m ge (find_passes test (message_numbers day) m f) (find (named m) (item_numbers day m)) refl (subst (λ (o : Option Want). IfSome o (λ w. message_of w ≡ n → k < entry_of w)) (sym (same m)) q))
        (cases_lt n m)
