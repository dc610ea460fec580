-- The first member that has a line has that of the first want that is ready.
use Rattle.std.proofs.Common.{◌≡◌, ◌∙◌, ℕ, suc, ◌<◌, Bool, true, false, not, ◌&&◌, Option, Some, None, is_some, length, refl, sym, ap, subst, arith}
use Rattle.std.specs.Prelude.{IsSome, if◌then◌else◌, nat_eq, nat_lt, option_map}
use Rattle.std.specs.List.{find}
use Rattle.std.proofs.lemmas.Bool.{and_from, and_parts, eq-eqb, false_from_ne_true, false≢true, lt-ltb, ltb-true, or_right}
use Rattle.batch_records.specs.DayRecord.{Day}
use Rattle.commit_journal.specs.declared.line.Want.{Want}
use Rattle.commit_journal.specs.Line.{History, Line}
use Rattle.machine.specs.declared.answers.Item.{Item}
use Rattle.machine.specs.Records.Messages.{entries, item_numbers, message_numbers}
use Rattle.machine.specs.Telling.History.{is_ended}
use Rattle.machine.specs.Making.FirstReady.{first_ready, first_ready_of}
use Rattle.machine.specs.Making.Lines.{is_ready_item, is_ready_message, item_want, line_of}
use Rattle.settlement_laws.proofs.Base.Lists.{never}
use Rattle.settlement_laws.proofs.Base.Sums.{any-from}
use Rattle.number_set.specs.Next.{IsNext}
use Rattle.scan_laws.specs.Numbers.{IsItem, item_count, item_number, item_of}
use Rattle.scan_laws.specs.Runs.{line_at, want_at}
use Rattle.scan_laws.proofs.Lined.{line-ready}
use Rattle.scan_laws.proofs.NumberFacts.{item-is, item-there, number-back, number-order}
use Rattle.ready_items.specs.Goes.{ready_at}
use Rattle.ready_items.specs.Kept.{IsRenewed, KeepsReady, Ready, is_member}
use Rattle.ready_items.specs.Shows.{IsIdle}
use Rattle.ready_items.proofs.MemberFacts.{member_within}
use Rattle.ready_items.proofs.ShowFacts.{shown_next, shows_ready}
use Rattle.settle_floor.specs.NextLines.{MakesReady, MakesWant, MayMakeReady}
use Rattle.settle_floor.proofs.FirstReady.{RestBelow, earlier_message, first_in_range, message_rests}

-- ---- the first number that is ready

module _ (day : Day) (J : History) (x : ℕ) (low : x < item_count day) (before : RestBelow day J x) where
  own : IsItem day (item_of day x).msg (item_of day x).entry
  own = item-is day x low

  -- its message is the first that is ready
  first_message : is_ready_item day J (item_of day x).msg (item_of day x).entry ≡ true → find (is_ready_message day J) (message_numbers day) ≡ Some (item_of day x).msg
  unfolding is_ready_message
  first_message ready =
      let n = (item_of day x).msg in
      let k = (item_of day x).entry in
      let first = own.first in
      let last = own.last in
      let entry = own.entry in
      first_in_range (is_ready_message day J) 1 (length day.messages) n (omega (arith, first)) (omega (arith, last))
      (any-from (is_ready_item day J n) 0 (suc (length (entries day n))) k (omega arith) (omega (arith, entry)) ready)
      (λ m a b. message_rests day J m x before a (omega (arith, b, last)) (λ j h. subst (λ y. item_number day m j < y) (number-back day x low) (earlier_message day m j n k h own b)))

  -- an entry before it is not ready
  earlier_entry : (j : ℕ) → j < (item_of day x).entry → is_ready_item day J (item_of day x).msg j ≡ false
  earlier_entry j less =
      let n = (item_of day x).msg in
      let k = (item_of day x).entry in
      let entry = own.entry in
      let there : IsItem day n j = record { first = own.first; last = own.last; entry = omega (arith, entry, less) } in
      let earlier : item_number day n j < item_number day n k = ltb-true (item_number day n j) (item_number day n k) (number-order day n j n k there own ∙ or_right (nat_lt n n) (nat_eq n n && nat_lt j k) (and_from _ _ (eq-eqb n n refl) (lt-ltb j k less))) in
      sym (ap (λ (y : Item). is_ready_item day J y.msg y.entry) (item-there day n j there)) ∙ before (item_number day n j) (subst (λ y. item_number day n j < y) (number-back day x low) earlier)

  first_entry : is_ready_item day J (item_of day x).msg (item_of day x).entry ≡ true → find (is_ready_item day J (item_of day x).msg) (item_numbers day (item_of day x).msg) ≡ Some (item_of day x).entry
  first_entry ready =
      let n = (item_of day x).msg in
      let k = (item_of day x).entry in
      let entry = own.entry in
      first_in_range (is_ready_item day J n) 0 (suc (length (entries day n))) k (omega arith) (omega (arith, entry)) ready (λ j _ less. earlier_entry j less)

  pub first_want : is_ready_item day J (item_of day x).msg (item_of day x).entry ≡ true → first_ready day J ≡ Some (want_at day J x)
  unfolding first_ready
  first_want ready = ap (first_ready_of day J) (first_message ready) ∙ ap (option_map (item_want day J (item_of day x).msg)) (first_entry ready)

-- ---- the first member

module _ (day : Day) (J : History) (v : Ready) (keeps : KeepsReady day J v) (renewed : IsRenewed v) (start : v.at ≡ 0) where
  rests_before : (x : ℕ) → IsNext (is_member v) v.at (Some x) → RestBelow day J x
  rests_before x next i less = false_from_ne_true (is_ready_item day J (item_of day i).msg (item_of day i).entry) (λ r.
      let low = member_within day J v x keeps next.passes in
      let shown : IsIdle (ready_at day J) v.at (Some x) = shown_next (is_member v) (ready_at day J) v.at (Some x) (shows_ready day J v keeps renewed) next in
      never (ready_at day J i) (and_from _ _ (lt-ltb i (item_count day) (omega (arith, less, low))) r) (shown i (omega (arith, start)) less))

  pub member_is_first : (x : ℕ) (l : Line) → IsNext (is_member v) v.at (Some x) → line_of day J (want_at day J x) ≡ Some l → first_ready day J ≡ Some (want_at day J x)
  unfolding line_at
  member_is_first x l next line =
      let low = member_within day J v x keeps next.passes in
      let ready = (and_parts (not (is_ended J)) (is_ready_item day J (item_of day x).msg (item_of day x).entry) (sym (line-ready day J x) ∙ ap is_some line)).1 in
      first_want day J x low (rests_before x next) ready

  -- its line is that of the first want that is ready, where it is made
  pub makes_first : (K : History) (x : ℕ) (made : Option ℕ) → IsNext (is_member v) v.at (Some x) → MakesWant day J K (want_at day J x) made → MayMakeReady day J K made
  makes_first K x (Some place) next m = (want_at day J x, member_is_first x m.0 next m.1, m)
  makes_first K x None next m = m.1

-- ---- the candidate

-- which has a line
pub makes_candidate : (day : Day) (J K : History) (want : Want) (made : Option ℕ) → first_ready day J ≡ Some want → IsSome (line_of day J want) → MakesWant day J K want made → MakesReady day J K made
makes_candidate day J K want (Some place) first line m = (want, first, m)
makes_candidate day J K want None first line m = absurd (false≢true (sym (ap is_some m.0) ∙ line))

-- the day goes on, so that the candidate is the first want that is ready
pub while_it_lasts : (day : Day) (J : History) (o : Option Want) → is_ended J ≡ false → o ≡ (if is_ended J then None else first_ready day J) → first_ready day J ≡ o
while_it_lasts day J o e h = here (is_ended J) o (first_ready day J) h e
  where
    here : (b : Bool) (o r : Option Want) → o ≡ (if b then None else r) → b ≡ false → r ≡ o
    here false o r h e = sym h
    here true o r h e = absurd (false≢true (sym e))
