-- Each message is taken once and in its sender's order, and each entry is booked once.
use Rattle.std.proofs.Common.{◌≡◌, ℕ, suc, ◌+◌, ◌<◌, ◌≤◌, [], ◌∷◌, length, Bool, true, false, ◌&&◌, ◌||◌, not, is_some, is_none, refl, sym, ap, ◌∙◌, subst, arith}
use Rattle.std.specs.Prelude.{if◌then◌else◌, nat_eq, nat_lt, count_by}
use Rattle.std.specs.List.{list_all}
use Rattle.std.proofs.lemmas.Bool.{and_parts, and_from, eqb-true, lt-ltb}
use Rattle.std.proofs.lemmas.List.Sums.{sum_by-cons}
use Rattle.std.proofs.lemmas.Slice.Eq.{bytes_eq-Decides}
use Rattle.batch_records.specs.DayRecord.{Day}
use Rattle.batch_records.specs.Sound.{is_sound}
use Rattle.commit_journal.specs.declared.line.Want.{Want}
use Rattle.commit_journal.specs.declared.line.Want.TheVariants as wants
use Rattle.commit_journal.specs.Line.{Line, History}
use Rattle.machine.specs.Words.{same_name}
use Rattle.machine.specs.Records.Messages.{sort_of, is_message, is_b, sender, message_numbers}
use Rattle.machine.specs.Telling.History.{place_of, is_in_of, is_book_of, taken, clock}
use Rattle.machine.specs.Telling.Facts.{is_reached, untaken_earlier}
use Rattle.machine.specs.Stages.Phases.{phase, is_booked}
use Rattle.machine.specs.Stages.Pending.{is_pending, pending_as}
use Rattle.machine.specs.Making.Lines.{may, made, is_ready}
use Rattle.machine.specs.Legal.{IsLegal, is_complete}
use Rattle.machine.specs.Laws.{FollowsSender, NoneIsTakenTwice, EachIsTakenOnce, MessagesInOrder, IsBookedOnce, NoneIsBookedTwice}
use Rattle.settlement_laws.proofs.Base.Induction.{legal_induction, each_line}
use Rattle.settlement_laws.proofs.Base.Sums.{bit, bit_bound, all-at}
use Rattle.settlement_laws.proofs.Base.Places.{place-other}
use Rattle.settlement_laws.proofs.Base.Searches.{find_none}
use Rattle.settlement_laws.proofs.DayEnd.Stops.{message_is, all_in, implies}
use Rattle.settlement_laws.proofs.DayEnd.Progress.{message_at-in}
use Rattle.settlement_laws.proofs.DayEnd.LineBound.{is_not, bookable}
use Rattle.settlement_laws.proofs.Base.Counting.{stands_now}
use Rattle.settlement_laws.proofs.Base.PhaseLaws.{open_unsettled}

-- ---- lines that come once

none_yet : (t : Line → Bool) → count_by t [] ≡ bit (is_some (place_of t []))
unfolding place_of
none_yet t = refl

-- where no line passes after one that did, at most one passes
pub once : (day : Day) (t : Line → Bool) → ((J : History) (w : Want) → may day J w ≡ true → t (made day J w) ≡ true → is_some (place_of t J) ≡ false) → (J : History) → IsLegal day J → count_by t J ≡ bit (is_some (place_of t J))
once day t fresh = legal_induction day (λ J. count_by t J ≡ bit (is_some (place_of t J))) (none_yet t) (λ J w legal before e m. step J (made day J w) before (fresh J w m))
  where
    step : (J : History) (l : Line) → count_by t J ≡ bit (is_some (place_of t J)) → (t l ≡ true → is_some (place_of t J) ≡ false) → count_by t (l ∷ J) ≡ bit (is_some (place_of t (l ∷ J)))
    step J l before new = sum_by-cons (λ x. if t x then 1 else 0) l J ∙ go (t l) refl
      where
        go : (b : Bool) → t l ≡ b → (if b then 1 else 0) + count_by t J ≡ bit (is_some (place_of t (l ∷ J)))
        go true e =
            let one : bit (is_some (place_of t (l ∷ J))) ≡ 1 = ap bit (stands_now t l J e) in
            let no_line : bit (is_some (place_of t J)) ≡ 0 = ap bit (new e) in
            omega (arith, before, one, no_line)
        go false e =
            let same : bit (is_some (place_of t (l ∷ J))) ≡ bit (is_some (place_of t J)) = ap (λ o. bit (is_some o)) (place-other t l J e) in
            omega (arith, before, same)

taken_new : (day : Day) (n : ℕ) (J : History) (w : Want) → may day J w ≡ true → is_in_of n (made day J w) ≡ true → is_some (taken J n) ≡ false
taken_new day n J (wants.In m) h t =
    let a = and_parts _ (is_none (untaken_earlier day J m)) h in
    let b = and_parts _ (is_reached day J m) a.0 in
    subst (λ i. is_some (taken J i) ≡ false) (eqb-true m n t) (is_not (taken J m) (and_parts (is_message (sort_of day m)) (is_none (taken J m)) b.0).1)
taken_new day n J (wants.Book m k) h t = cc
taken_new day n J (wants.All m) h t = cc
taken_new day n J wants.Time h t = cc
taken_new day n J (wants.Expire m) h t = cc
taken_new day n J (wants.Ask m) h t = cc
taken_new day n J (wants.Cover m) h t = cc
taken_new day n J (wants.Refuse m) h t = cc
taken_new day n J (wants.Sweep a) h t = cc
taken_new day n J wants.End h t = cc

booked_new : (day : Day) (n k : ℕ) (J : History) (w : Want) → may day J w ≡ true → is_book_of n k (made day J w) ≡ true → is_booked J n k ≡ false
unfolding is_pending
booked_new day n k J (wants.In m) h t = cc
booked_new day n k J (wants.Book m i) h t =
    let s = and_parts (nat_eq m n) (nat_eq i k) t in
    let b = and_parts (pending_as (sort_of day m) day J m i (phase day J m)) (not (is_b (sort_of day m))) (and_parts _ _ h).0 in
    let unbooked = (bookable (sort_of day m) day J m i (phase day J m) (open_unsettled day J m) b.1 b.0).unbooked in
    subst (λ x. is_booked J n x ≡ false) (eqb-true i k s.1) (subst (λ x. is_booked J x i ≡ false) (eqb-true m n s.0) unbooked)
booked_new day n k J (wants.All m) h t = cc
booked_new day n k J wants.Time h t = cc
booked_new day n k J (wants.Expire m) h t = cc
booked_new day n k J (wants.Ask m) h t = cc
booked_new day n k J (wants.Cover m) h t = cc
booked_new day n k J (wants.Refuse m) h t = cc
booked_new day n k J (wants.Sweep a) h t = cc
booked_new day n k J wants.End h t = cc

pub booked_at_most_once : (day : Day) (J : History) → IsLegal day J → NoneIsBookedTwice J
booked_at_most_once day J legal n k =
    let e : count_by (is_book_of n k) J ≡ bit (is_booked J n k) = once day (is_book_of n k) (booked_new day n k) J legal in
    omega (arith, e, bit_bound (is_booked J n k))

pub booked_once : (day : Day) (J : History) → IsLegal day J → IsBookedOnce day J
booked_once day J legal n k s = booked_at_most_once day J legal n k

-- ---- the End line stands at midnight

late_step : (day : Day) (J : History) (w : Want) → may day J w ≡ true → is_complete (made day J w ∷ J) ≡ true → 86400 ≤ clock (made day J w ∷ J)
unfolding clock
late_step day J (wants.In n) h c = cc
late_step day J (wants.Book n k) h c = cc
late_step day J (wants.All n) h c = cc
late_step day J wants.Time h c = cc
late_step day J (wants.Expire n) h c = cc
late_step day J (wants.Ask n) h c = cc
late_step day J (wants.Cover n) h c = cc
late_step day J (wants.Refuse n) h c = cc
late_step day J (wants.Sweep a) h c = cc
late_step day J wants.End h c = let e : clock J ≡ 86400 = eqb-true (clock J) 86400 (and_parts (nat_eq (clock J) 86400) (not (is_ready day J)) h).0 in omega (arith, e)

pub complete_late : (day : Day) (J : History) → IsLegal day J → is_complete J ≡ true → 86400 ≤ clock J
complete_late day = legal_induction day (λ J. is_complete J ≡ true → 86400 ≤ clock J) (λ c. cc) (λ J w legal before e h. late_step day J w h)

pub taken_once : (day : Day) → is_sound day ≡ true → (J : History) → IsLegal day J → EachIsTakenOnce day J
taken_once day sound J legal complete n low high =
    once day (is_in_of n) (taken_new day n) J legal ∙ ap bit (all_in day sound J legal (complete_late day J legal complete) n (message_at-in day n low (omega (arith, high))).1)

-- ---- the order of a sender's messages

follows : (day : Day) (J : History) (w : Want) → may day J w ≡ true → FollowsSender day (made day J w) J
follows day J (wants.In m) h n i t low less same =
    let a = and_parts _ (is_none (untaken_earlier day J m)) h in
    let b = and_parts _ (is_reached day J m) a.0 in
    let at = message_is day m (and_parts (is_message (sort_of day m)) (is_none (taken J m)) b.0).0 in
    let m_is : m ≡ suc at.place = at.number in
    let within : at.place < length day.messages = at.within in
    let n_is : m ≡ n = eqb-true m n t in
    let all : list_all (λ x. not (nat_lt x m && same_name (sender day x) (sender day m)) || is_some (taken J x)) (message_numbers day) ≡ true = sym (find_none (λ x. nat_lt x m && same_name (sender day x) (sender day m)) (taken J) (message_numbers day)) ∙ a.1 in
    implies _ _ (all-at (λ x. not (nat_lt x m && same_name (sender day x) (sender day m)) || is_some (taken J x)) 1 (length day.messages) i all low (omega (arith, less, n_is, m_is, within)))
    (and_from _ _ (lt-ltb i m (omega (arith, less, n_is))) ((bytes_eq-Decides (sender day i) (sender day m)).1 (same ∙ ap (sender day) (sym n_is))))
follows day J (wants.Book m k) h n i t low less same = cc
follows day J (wants.All m) h n i t low less same = cc
follows day J wants.Time h n i t low less same = cc
follows day J (wants.Expire m) h n i t low less same = cc
follows day J (wants.Ask m) h n i t low less same = cc
follows day J (wants.Cover m) h n i t low less same = cc
follows day J (wants.Refuse m) h n i t low less same = cc
follows day J (wants.Sweep a) h n i t low less same = cc
follows day J wants.End h n i t low less same = cc

taken_no_twice : (day : Day) (J : History) → IsLegal day J → NoneIsTakenTwice J
taken_no_twice day J legal n =
    let e : count_by (is_in_of n) J ≡ bit (is_some (taken J n)) = once day (is_in_of n) (taken_new day n) J legal in
    omega (arith, e, bit_bound (is_some (taken J n)))

pub messages_in_order : (day : Day) → is_sound day ≡ true → (J : History) → IsLegal day J → MessagesInOrder day J
messages_in_order day sound J legal = (taken_no_twice day J legal, taken_once day sound J legal, each_line day (FollowsSender day) (λ K w old e m. follows day K w m) J legal)
