-- Why a want of one of the day's messages has no line is the same with a longer day.
use Rattle.std.proofs.Common.{◌≡◌, ◌∙◌, ℕ, suc, ◌<◌, ◌≤◌, arith, List, [], ◌∷◌, length, Option, Some, None, refl, ap}
use Rattle.std.specs.Prelude.{◌&&◌, ◌||◌, nat_eq, nat_lt, is_some, is_none, option_map}
use Rattle.std.specs.List.{find, range_with_len}
use Rattle.std.proofs.lemmas.Bool.{and_left}
use Rattle.period_calendar.specs.declared.time.TheConstants.{MIDNIGHT}
use Rattle.batch_records.specs.DayRecord.{Day}
use Rattle.batch_records.specs.declared.day.Entry.{Entry}
use Rattle.batch_records.specs.declared.day.Message.{Message}
use Rattle.commit_journal.specs.declared.line.Want.{Want}
use Rattle.commit_journal.specs.declared.line.Want.TheVariants as wants
use Rattle.commit_journal.specs.Line.{History}
use Rattle.machine.specs.declared.answers.Item.{Item}
use Rattle.machine.specs.declared.answers.Why.TheVariants as whys
use Rattle.machine.specs.Words.{first_some, only_if, when, unless}
use Rattle.machine.specs.Records.Messages.{is_message, is_a, is_b, is_e, is_a_or_b, message_numbers, part, debit_account}
use Rattle.machine.specs.Telling.History.{taken, booked, covered, clock}
use Rattle.machine.specs.Telling.Balances.{balance}
use Rattle.machine.specs.Telling.Facts.{round, is_reached, untaken_reached}
use Rattle.machine.specs.Stages.Phases.{is_open, is_overdue, is_answered, is_asking}
use Rattle.machine.specs.Stages.Pending.{item, debtors, is_blocked}
use Rattle.machine.specs.Making.Lines.{may_lapse, is_ready_message}
use Rattle.machine.specs.Making.FirstReady.{first_ready_item, first_ready_of, first_ready}
use Rattle.machine.specs.Making.Reasons.{over, untaken, blocked_by, blocked, short, why_not_in, books, is_open_or_covered, blocked_part, short_part, why_not_book, blocked_at, blocked_on, why_not_all, why_not_expire, why_not_ask, why_not_cover, why_not_refuse, why_not_sweep, why_not_time, why_not_end, why_of}
use Rattle.live_order.specs.Longer.{longer, GoesOn, SpeaksOf, IsWithin}
use Rattle.live_order.proofs.Longer.Ranges.{find_front, find_within}
use Rattle.live_order.proofs.Longer.Known.{sort_same, round_same, entries_same, part_same, is_debit_same, is_credit_same, debtors_same, fund_same, fund_account_same}
use Rattle.live_order.proofs.Longer.FactsSame.{revoked_same, phase_same}
use Rattle.live_order.proofs.Longer.PendingSame.{unbooked_debit_same, blocked_same, first_blocker_same}
use Rattle.live_order.proofs.Longer.RoundsSame.{reached_same, never_reached}
use Rattle.live_order.proofs.Longer.LinesSame.{earlier_same, covered_part_same, short_same, may_ask_same, need_same, suffices_same, yes_same, item_want_same, ready_item_same, ready_message_same, never_ready}

module _ (day : Day) (ms : List Message) (ss : List ℕ) where
  pub why_not_in_same : GoesOn day ms ss → (J : History) (n : ℕ) → n ≤ length day.messages → why_not_in (longer day ms ss) J n ≡ why_not_in day J n
  unfolding why_not_in
  why_not_in_same g J n h = λ i. first_some (
      over J
      ∷ unless (is_message (sort_same day ms ss n h i)) whys.NoSuch
      ∷ option_map whys.Taken (taken J n)
      ∷ unless (reached_same day ms ss g J n h i) (whys.Round (round_same day ms ss n h i))
      ∷ option_map whys.Earlier (earlier_same day ms ss J n h i)
      ∷ [])

  -- ---- Book

  blocked_why_same : (J : History) → SpeaksOf (length day.messages) J → (x : Item) (a : ℕ) → x.msg ≤ length day.messages → blocked (longer day ms ss) J x a ≡ blocked day J x a
  blocked_why_same J f x a h = ap (option_map (blocked_by a)) (first_blocker_same day ms ss J f x a h)

  blocked_by_part : (J : History) → SpeaksOf (length day.messages) J → (x : Item) → x.msg ≤ length day.messages → (o : Option Entry) → blocked_part (longer day ms ss) J x o ≡ blocked_part day J x o
  blocked_by_part J f x h None = refl
  blocked_by_part J f x h (Some e) = blocked_why_same J f x (debit_account day e) h

  short_by_part : (J : History) (n : ℕ) → n ≤ length day.messages → (o : Option Entry) → short_part (longer day ms ss) J n o ≡ short_part day J n o
  short_by_part J n h None = refl
  short_by_part J n h (Some e) = ap (λ b. unless b (short day J (debit_account day e))) (covered_part_same day ms ss J n e h)

  pub why_not_book_same : (J : History) → SpeaksOf (length day.messages) J → (n k : ℕ) → n ≤ length day.messages → why_not_book (longer day ms ss) J n k ≡ why_not_book day J n k
  unfolding why_not_book
  why_not_book_same J f n k h =
      let b : blocked_part (longer day ms ss) J (item n k) (part (longer day ms ss) n k) ≡ blocked_part day J (item n k) (part day n k) =
      ap (blocked_part (longer day ms ss) J (item n k)) (part_same day ms ss n k h) ∙ blocked_by_part J f (item n k) h (part day n k) in
      let s : short_part (longer day ms ss) J n (part (longer day ms ss) n k) ≡ short_part day J n (part day n k) =
      ap (short_part (longer day ms ss) J n) (part_same day ms ss n k h) ∙ short_by_part J n h (part day n k) in
      λ i. first_some (
      over J
      ∷ unless (is_some (part_same day ms ss n k h i) && books (sort_same day ms ss n h i) k) whys.NoSuch
      ∷ untaken J n
      ∷ unless (is_open_or_covered (phase_same day ms ss J f n h i)) (whys.Phase (phase_same day ms ss J f n h i) (clock J))
      ∷ option_map whys.Booked (booked J n k)
      ∷ option_map whys.Revoked (only_if (is_e (sort_same day ms ss n h i)) (revoked_same day ms ss J f n k h i))
      ∷ option_map whys.Covered (only_if (is_a (sort_same day ms ss n h i) && is_debit_same day ms ss n k h i) (covered J n))
      ∷ option_map whys.Debits (only_if (is_a (sort_same day ms ss n h i) && is_open (phase_same day ms ss J f n h i) && is_credit_same day ms ss n k h i) (unbooked_debit_same day ms ss J n h i))
      ∷ b i
      ∷ s i
      ∷ [])

  -- ---- All

  blocked_by_account : (J : History) → SpeaksOf (length day.messages) J → (x : Item) → x.msg ≤ length day.messages → (o : Option ℕ) → blocked_at (longer day ms ss) J x o ≡ blocked_at day J x o
  blocked_by_account J f x h None = refl
  blocked_by_account J f x h (Some a) = blocked_why_same J f x a h

  pub why_not_all_same : (J : History) → SpeaksOf (length day.messages) J → (n : ℕ) → n ≤ length day.messages → why_not_all (longer day ms ss) J n ≡ why_not_all day J n
  unfolding why_not_all
  why_not_all_same J f n h =
      let b : blocked_on (longer day ms ss) J (item n 0) (debtors (longer day ms ss) n) ≡ blocked_on day J (item n 0) (debtors day n) =
      (λ i. blocked_at (longer day ms ss) J (item n 0) (find (λ a. blocked_same day ms ss J f (item n 0) a h i) (debtors_same day ms ss n h i)))
      ∙ blocked_by_account J f (item n 0) h (find (is_blocked day J (item n 0)) (debtors day n)) in
      λ i. first_some (
      over J
      ∷ unless (is_b (sort_same day ms ss n h i)) whys.NoSuch
      ∷ untaken J n
      ∷ unless (is_open (phase_same day ms ss J f n h i)) (whys.Phase (phase_same day ms ss J f n h i) (clock J))
      ∷ b i
      ∷ option_map (short day J) (find (λ a. short_same day ms ss J n a h i) (debtors_same day ms ss n h i))
      ∷ [])

  -- ---- Expire, Ask, Cover, Refuse

  pub why_not_expire_same : (J : History) → SpeaksOf (length day.messages) J → (n : ℕ) → n ≤ length day.messages → why_not_expire (longer day ms ss) J n ≡ why_not_expire day J n
  unfolding why_not_expire
  why_not_expire_same J f n h = λ i. first_some (
      over J
      ∷ unless (may_lapse (sort_same day ms ss n h i)) whys.NoSuch
      ∷ untaken J n
      ∷ unless (is_overdue (phase_same day ms ss J f n h i)) (whys.Phase (phase_same day ms ss J f n h i) (clock J))
      ∷ when (may_ask_same day ms ss J f n h i) (whys.Fund (fund_account_same day ms ss n h i))
      ∷ [])

  pub why_not_ask_same : (J : History) → SpeaksOf (length day.messages) J → (n : ℕ) → n ≤ length day.messages → why_not_ask (longer day ms ss) J n ≡ why_not_ask day J n
  unfolding why_not_ask
  why_not_ask_same J f n h = λ i. first_some (
      over J
      ∷ unless (is_a_or_b (sort_same day ms ss n h i)) whys.NoSuch
      ∷ untaken J n
      ∷ unless (is_overdue (phase_same day ms ss J f n h i)) (whys.Phase (phase_same day ms ss J f n h i) (clock J))
      ∷ unless (is_some (fund_same day ms ss n h i)) whys.NoFund
      ∷ unless (nat_lt (clock J) MIDNIGHT) (whys.Clock (clock J))
      ∷ [])

  pub why_not_cover_same : (J : History) → SpeaksOf (length day.messages) J → (n : ℕ) → n ≤ length day.messages → why_not_cover (longer day ms ss) J n ≡ why_not_cover day J n
  unfolding why_not_cover
  why_not_cover_same J f n h = λ i. first_some (
      over J
      ∷ unless (is_a_or_b (sort_same day ms ss n h i)) whys.NoSuch
      ∷ untaken J n
      ∷ unless (is_answered (phase_same day ms ss J f n h i)) (whys.Phase (phase_same day ms ss J f n h i) (clock J))
      ∷ unless (yes_same day ms ss J f n h i) whys.Answer
      ∷ unless (suffices_same day ms ss J n h i) (short day J (fund_account_same day ms ss n h i))
      ∷ [])

  pub why_not_refuse_same : (J : History) → SpeaksOf (length day.messages) J → (n : ℕ) → n ≤ length day.messages → why_not_refuse (longer day ms ss) J n ≡ why_not_refuse day J n
  unfolding why_not_refuse
  why_not_refuse_same J f n h = λ i. first_some (
      over J
      ∷ unless (is_a_or_b (sort_same day ms ss n h i)) whys.NoSuch
      ∷ untaken J n
      ∷ unless (is_answered (phase_same day ms ss J f n h i) || is_asking (phase_same day ms ss J f n h i) && nat_eq (clock J) MIDNIGHT) (whys.Phase (phase_same day ms ss J f n h i) (clock J))
      ∷ when (yes_same day ms ss J f n h i && suffices_same day ms ss J n h i) (whys.Enough (balance day J (fund_account_same day ms ss n h i)) (need_same day ms ss J n h i))
      ∷ [])

  -- ---- Sweep, Time, End

  why_not_sweep_same : (J : History) (a : ℕ) → why_not_sweep (longer day ms ss) J a ≡ why_not_sweep day J a
  unfolding why_not_sweep
  why_not_sweep_same J a = refl

  pub untaken_reached_same : GoesOn day ms ss → (J : History) → round day J < length day.stops → untaken_reached (longer day ms ss) J ≡ untaken_reached day J
  untaken_reached_same g J below =
      find_front (λ n. is_reached (longer day ms ss) J n && is_none (taken J n)) (λ n. is_reached day J n && is_none (taken J n)) 1 day.messages ms
      (λ n l. ap (λ b. b && is_none (taken J n)) (reached_same day ms ss g J n (omega arith)))
      (λ n l m. and_left _ _ (never_reached day ms ss g J below n (omega arith) (omega arith)))

  first_item_same : (J : History) → SpeaksOf (length day.messages) J → (n : ℕ) → n ≤ length day.messages → first_ready_item (longer day ms ss) J n ≡ first_ready_item day J n
  first_item_same J f n h = λ i.
      option_map (λ k. item_want_same day ms ss J f n k h i) (find (λ k. ready_item_same day ms ss J f n k h i) (range_with_len 0 (suc (length (entries_same day ms ss n h i)))))

  first_of_same : (J : History) → SpeaksOf (length day.messages) J → (o : Option ℕ) → ((n : ℕ) → o ≡ Some n → n ≤ length day.messages) → first_ready_of (longer day ms ss) J o ≡ first_ready_of day J o
  first_of_same J f None own = refl
  first_of_same J f (Some n) own = first_item_same J f n (own n refl)

  pub first_ready_same : (J : History) → SpeaksOf (length day.messages) J → first_ready (longer day ms ss) J ≡ first_ready day J
  unfolding first_ready
  first_ready_same J f =
      ap (first_ready_of (longer day ms ss) J)
      (find_front (is_ready_message (longer day ms ss) J) (is_ready_message day J) 1 day.messages ms (λ n l. ready_message_same day ms ss J f n (omega arith)) (λ n l m. never_ready day ms ss J f n (omega arith)))
      ∙ first_of_same J f (find (is_ready_message day J) (message_numbers day)) (λ n e. let l = find_within (is_ready_message day J) 1 day.messages n e in omega (arith, l))

  why_not_time_same : GoesOn day ms ss → (J : History) → SpeaksOf (length day.messages) J → round day J < length day.stops → why_not_time (longer day ms ss) J ≡ why_not_time day J
  unfolding why_not_time
  why_not_time_same g J f below = λ i. first_some (
      over J
      ∷ unless (nat_lt (clock J) MIDNIGHT) (whys.Clock (clock J))
      ∷ option_map whys.Left (untaken_reached_same g J below i)
      ∷ option_map whys.Ready (first_ready_same J f i)
      ∷ [])

  why_not_end_same : (J : History) → SpeaksOf (length day.messages) J → why_not_end (longer day ms ss) J ≡ why_not_end day J
  unfolding why_not_end
  why_not_end_same J f = λ i. first_some (
      over J
      ∷ unless (nat_eq (clock J) MIDNIGHT) (whys.Clock (clock J))
      ∷ option_map whys.Ready (first_ready_same J f i)
      ∷ [])

  pub why_same : GoesOn day ms ss → (J : History) → SpeaksOf (length day.messages) J → (w : Want) → IsWithin day J w → why_of (longer day ms ss) J w ≡ why_of day J w
  why_same g J f (wants.In n) h = why_not_in_same g J n h
  why_same g J f (wants.Book n k) h = why_not_book_same J f n k h
  why_same g J f (wants.All n) h = why_not_all_same J f n h
  why_same g J f wants.Time h = why_not_time_same g J f h
  why_same g J f (wants.Expire n) h = why_not_expire_same J f n h
  why_same g J f (wants.Ask n) h = why_not_ask_same J f n h
  why_same g J f (wants.Cover n) h = why_not_cover_same J f n h
  why_same g J f (wants.Refuse n) h = why_not_refuse_same J f n h
  why_same g J f (wants.Sweep a) h = why_not_sweep_same J a
  why_same g J f wants.End h = why_not_end_same J f
