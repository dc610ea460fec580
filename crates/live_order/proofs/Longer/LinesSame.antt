-- The line of a want of one of the day's messages is the same with a longer day, and so is whether anything is ready.
use Rattle.std.proofs.Common.{◌≡◌, ◌∙◌, ℕ, zero, suc, ◌+◌, ◌<◌, ◌≤◌, arith, Bool, true, false, List, [], ◌∷◌, ◌++◌, length, Option, Some, None, refl, ap}
use Rattle.std.specs.Prelude.{◌&&◌, ◌||◌, not, if◌then◌else◌, nat_eq, nat_le, nat_lt, is_some, is_none, unwrap_or, fold, map, filter, sum_by}
use Rattle.std.specs.List.{list_all, list_any, range_with_len}
use Rattle.std.proofs.lemmas.Bool.{and_left, and_right, or_left, le-ltb, not_from_false}
use Rattle.period_calendar.specs.declared.time.TheConstants.{MIDNIGHT}
use Rattle.batch_records.specs.DayRecord.{Day}
use Rattle.batch_records.specs.declared.day.Entry.{Entry}
use Rattle.batch_records.specs.declared.day.Message.{Message}
use Rattle.commit_journal.specs.declared.line.Code.TheVariants as line_codes
use Rattle.commit_journal.specs.declared.line.Kind.TheVariants as kinds
use Rattle.commit_journal.specs.declared.line.Want.{Want}
use Rattle.commit_journal.specs.declared.line.Want.TheVariants as wants
use Rattle.commit_journal.specs.Line.{History}
use Rattle.machine.specs.declared.answers.Item.{Item}
use Rattle.machine.specs.declared.answers.Phase.{Phase}
use Rattle.machine.specs.declared.answers.Phase.TheVariants as phases
use Rattle.machine.specs.Words.{first_some, same_name, some_passes, when}
use Rattle.machine.specs.Records.Setup.{account_numbers}
use Rattle.machine.specs.Records.Messages.{Sort, Pay, BatchA, BatchB, BatchC, sort_of, sender, message_numbers, is_message, is_batch, is_b, is_a_or_b, item_numbers, info_end, earliest, settlement_end, is_high, part, debit_account, move_of}
use Rattle.machine.specs.Records.Reserves.{kept, must_leave, must_leave_as}
use Rattle.machine.specs.Telling.History.{taken, is_accepted, clock, is_ended}
use Rattle.machine.specs.Telling.Balances.{balance}
use Rattle.machine.specs.Telling.Facts.{round, is_reached, untaken_earlier}
use Rattle.machine.specs.Stages.Phases.{phase, is_overdue, is_answered, is_asking, is_booked}
use Rattle.machine.specs.Stages.Intake.{amount_of, intake_code, intake_moves}
use Rattle.machine.specs.Stages.Pending.{item}
use Rattle.machine.specs.Making.Lines.{line, may_take, in_line, moves_of_part, is_free_part, is_covered_part, may_book, book_line, is_short_debtor, may_settle_whole, all_line, may_ask, reversal, return_of, expiry_code, may_lapse, may_expire, expire_line, need_as, need, fund_suffices, is_answered_yes, is_answered_no, is_unanswered, cover_of, covered_debit, cover_moves, may_cover, cover_line, refusal, may_refuse, refuse_line, may_sweep, message_want, item_want, may_item, is_ready_item, is_ready_message, is_ready, lesser, lesser_end, next_stop, all_taken, may, made, line_if, line_of}
use Rattle.live_order.specs.Longer.{longer, GoesOn, SpeaksOf, IsWithin}
use Rattle.live_order.proofs.Longer.Ranges.{any_front, all_front, find_front, fold_front}
use Rattle.live_order.proofs.Longer.Known.{sort_same, by_sort, sender_same, entries_same, info_end_same, earliest_same, end_same, high_same, part_same, technical_same, fund_same, fund_account_same, debit_entries_same, credit_entries_same, by_debits_same, debtors_same, gross_same}
use Rattle.live_order.proofs.Longer.Spoken.{never_taken, never_accepted}
use Rattle.live_order.proofs.Longer.FactsSame.{answer_same, ended_same, phase_same}
use Rattle.live_order.proofs.Longer.IntakeSame.{code_same, intake_moves_same}
use Rattle.live_order.proofs.Longer.PendingSame.{phase_untaken, never_pending, any_none, pending_same, blocked_same}
use Rattle.live_order.proofs.Longer.RoundsSame.{reached_same, never_reached, least_same}

-- nothing of an untaken message is ready
untaken_want : (day : Day) (J : History) (n k : ℕ) → taken J n ≡ None → is_ready_item day J n k ≡ false
unfolding is_ready_item
untaken_want day J n zero e = ap (may_item day J) (ap (message_want day J n) (phase_untaken day J n e)) ∙ here (is_b (sort_of day n)) refl
  where
    here : (b : Bool) → is_b (sort_of day n) ≡ b → may_item day J (if b then wants.All n else wants.Book n 0) ≡ false
    here true f = and_left _ _ (and_left _ _ (and_right _ _ (never_pending day J (item n 0) e)))
    here false f = and_left _ _ (and_left _ _ (never_pending day J (item n 0) e))
untaken_want day J n (suc k) e = and_left _ _ (and_left _ _ (never_pending day J (item n (suc k)) e))

module _ (day : Day) (ms : List Message) (ss : List ℕ) where
  -- ---- In

  pub earlier_same : (J : History) (n : ℕ) → n ≤ length day.messages → untaken_earlier (longer day ms ss) J n ≡ untaken_earlier day J n
  earlier_same J n h =
      find_front
      (λ i. nat_lt i n && same_name (sender (longer day ms ss) i) (sender (longer day ms ss) n) && is_none (taken J i))
      (λ i. nat_lt i n && same_name (sender day i) (sender day n) && is_none (taken J i))
      1 day.messages ms
      (λ i l. λ j. nat_lt i n && same_name (sender_same day ms ss i (omega arith) j) (sender_same day ms ss n h j) && is_none (taken J i))
      (λ i l m. and_left _ _ (and_left _ _ (le-ltb i n (omega arith))))

  may_take_same : GoesOn day ms ss → (J : History) (n : ℕ) → n ≤ length day.messages → may_take (longer day ms ss) J n ≡ may_take day J n
  may_take_same g J n h = λ i. is_message (sort_same day ms ss n h i) && is_none (taken J n) && reached_same day ms ss g J n h i && is_none (earlier_same J n h i)

  in_line_same : (J : History) → SpeaksOf (length day.messages) J → (n : ℕ) → n ≤ length day.messages → in_line (longer day ms ss) J n ≡ in_line day J n
  in_line_same J f n h =
      let m : intake_moves (longer day ms ss) J n (intake_code (longer day ms ss) J n) ≡ intake_moves day J n (intake_code day J n) =
      ap (intake_moves (longer day ms ss) J n) (code_same day ms ss J f n h) ∙ intake_moves_same day ms ss J n h (intake_code day J n) in
      λ i. line kinds.In n 0 (code_same day ms ss J f n h i) (m i)

  -- ---- Book

  kept_same : (a : ℕ) (high : Bool) → kept (longer day ms ss) a high ≡ kept day a high
  kept_same a true = refl
  kept_same a false = refl

  leave_by_sort : (n a : ℕ) → n ≤ length day.messages → (s : Sort) → must_leave_as s (longer day ms ss) n a ≡ must_leave_as s day n a
  leave_by_sort n a h Pay = ap (kept (longer day ms ss) a) (high_same day ms ss n h) ∙ kept_same a (is_high day n)
  leave_by_sort n a h _ = refl

  pub leave_same : (n a : ℕ) → n ≤ length day.messages → must_leave (longer day ms ss) n a ≡ must_leave day n a
  leave_same n a h = by_sort day ms ss (λ s. must_leave_as s (longer day ms ss) n a) (λ s. must_leave_as s day n a) (leave_by_sort n a h) n h

  pub covered_part_same : (J : History) (n : ℕ) (e : Entry) → n ≤ length day.messages → is_covered_part (longer day ms ss) J n e ≡ is_covered_part day J n e
  covered_part_same J n e h = λ i. nat_le (e.amount + leave_same n (debit_account day e) h i) (balance day J (debit_account day e))

  free_part_same : (J : History) → SpeaksOf (length day.messages) J → (x : Item) (e : Entry) → x.msg ≤ length day.messages → is_free_part (longer day ms ss) J x e ≡ is_free_part day J x e
  free_part_same J f x e h = ap not (blocked_same day ms ss J f x (debit_account day e) h)

  pub may_book_same : (J : History) → SpeaksOf (length day.messages) J → (n k : ℕ) → n ≤ length day.messages → may_book (longer day ms ss) J n k ≡ may_book day J n k
  may_book_same J f n k h = λ i.
      pending_same day ms ss J f (item n k) h i && not (is_b (sort_same day ms ss n h i))
      && some_passes (λ e. free_part_same J f (item n k) e h i && covered_part_same J n e h i) (part_same day ms ss n k h i)

  part_moves_same : (o : Option Entry) → moves_of_part (longer day ms ss) o ≡ moves_of_part day o
  part_moves_same None = refl
  part_moves_same (Some e) = refl

  book_line_same : (n k : ℕ) → n ≤ length day.messages → book_line (longer day ms ss) n k ≡ book_line day n k
  book_line_same n k h =
      let m : moves_of_part (longer day ms ss) (part (longer day ms ss) n k) ≡ moves_of_part day (part day n k) =
      ap (moves_of_part (longer day ms ss)) (part_same day ms ss n k h) ∙ part_moves_same (part day n k) in
      λ i. line kinds.Book n k line_codes.Ok (m i)

  -- ---- All

  pub short_same : (J : History) (n a : ℕ) → n ≤ length day.messages → is_short_debtor (longer day ms ss) J n a ≡ is_short_debtor day J n a
  short_same J n a h = ap (nat_lt (balance day J a)) (gross_same day ms ss n a h)

  pub may_whole_same : (J : History) → SpeaksOf (length day.messages) J → (n : ℕ) → n ≤ length day.messages → may_settle_whole (longer day ms ss) J n ≡ may_settle_whole day J n
  may_whole_same J f n h = λ i.
      is_b (sort_same day ms ss n h i) && pending_same day ms ss J f (item n 0) h i
      && list_all (λ a. not (blocked_same day ms ss J f (item n 0) a h i)) (debtors_same day ms ss n h i)
      && list_all (λ a. not (short_same J n a h i)) (debtors_same day ms ss n h i)

  all_line_same : (n : ℕ) → n ≤ length day.messages → all_line (longer day ms ss) n ≡ all_line day n
  all_line_same n h = λ i. line kinds.All n 0 line_codes.Ok (map (move_of day) (debit_entries_same day ms ss n h i) ++ map (move_of day) (credit_entries_same day ms ss n h i))

  -- ---- Ask, Expire

  pub may_ask_same : (J : History) → SpeaksOf (length day.messages) J → (n : ℕ) → n ≤ length day.messages → may_ask (longer day ms ss) J n ≡ may_ask day J n
  may_ask_same J f n h = λ i.
      is_a_or_b (sort_same day ms ss n h i) && is_overdue (phase_same day ms ss J f n h i) && is_some (fund_same day ms ss n h i) && nat_lt (clock J) MIDNIGHT

  return_same : (n : ℕ) (e : Entry) → n ≤ length day.messages → return_of (longer day ms ss) n e ≡ return_of day n e
  return_same n e h = λ i. record { debit = technical_same day ms ss n h i; credit = debit_account day e; amount = e.amount }

  reversal_by_sort : (J : History) (n : ℕ) → n ≤ length day.messages → (s : Sort) → reversal s (longer day ms ss) J n ≡ reversal s day J n
  reversal_by_sort J n h BatchA = λ i. map (λ e. return_same n e h i) (by_debits_same day ms ss n (is_booked J n) h i)
  reversal_by_sort J n h _ = refl

  reversal_same : (J : History) (n : ℕ) → n ≤ length day.messages → reversal (sort_of (longer day ms ss) n) (longer day ms ss) J n ≡ reversal (sort_of day n) day J n
  reversal_same J n h = by_sort day ms ss (λ s. reversal s (longer day ms ss) J n) (λ s. reversal s day J n) (reversal_by_sort J n h) n h

  expiry_by_sort : (J : History) → SpeaksOf (length day.messages) J → (n : ℕ) → n ≤ length day.messages → (s : Sort) → expiry_code s (longer day ms ss) J n ≡ expiry_code s day J n
  expiry_by_sort J f n h BatchC = λ i. if ended_same day ms ss n J f h i then line_codes.Ce else line_codes.Ed
  expiry_by_sort J f n h Pay = refl
  expiry_by_sort J f n h _ = refl

  pub may_expire_same : (J : History) → SpeaksOf (length day.messages) J → (n : ℕ) → n ≤ length day.messages → may_expire (longer day ms ss) J n ≡ may_expire day J n
  may_expire_same J f n h = λ i. may_lapse (sort_same day ms ss n h i) && is_overdue (phase_same day ms ss J f n h i) && not (may_ask_same J f n h i)

  expire_line_same : (J : History) → SpeaksOf (length day.messages) J → (n : ℕ) → n ≤ length day.messages → expire_line (longer day ms ss) J n ≡ expire_line day J n
  expire_line_same J f n h =
      let c : expiry_code (sort_of (longer day ms ss) n) (longer day ms ss) J n ≡ expiry_code (sort_of day n) day J n =
      by_sort day ms ss (λ s. expiry_code s (longer day ms ss) J n) (λ s. expiry_code s day J n) (expiry_by_sort J f n h) n h in
      λ i. line kinds.Expire n 0 (c i) (reversal_same J n h i)

  -- ---- Cover, Refuse

  need_by_sort : (J : History) (n : ℕ) → n ≤ length day.messages → (s : Sort) → need_as s (longer day ms ss) J n ≡ need_as s day J n
  need_by_sort J n h BatchA = ap (sum_by amount_of) (by_debits_same day ms ss n (λ k. not (is_booked J n k)) h)
  need_by_sort J n h BatchB = λ i. sum_by amount_of (filter (λ e. short_same J n (debit_account day e) h i) (debit_entries_same day ms ss n h i))
  need_by_sort J n h _ = refl

  pub need_same : (J : History) (n : ℕ) → n ≤ length day.messages → need (longer day ms ss) J n ≡ need day J n
  need_same J n h = by_sort day ms ss (λ s. need_as s (longer day ms ss) J n) (λ s. need_as s day J n) (need_by_sort J n h) n h

  pub suffices_same : (J : History) (n : ℕ) → n ≤ length day.messages → fund_suffices (longer day ms ss) J n ≡ fund_suffices day J n
  suffices_same J n h = λ i. nat_le (need_same J n h i) (balance day J (fund_account_same day ms ss n h i))

  pub yes_same : (J : History) → SpeaksOf (length day.messages) J → (n : ℕ) → n ≤ length day.messages → is_answered_yes (longer day ms ss) J n ≡ is_answered_yes day J n
  yes_same J f n h = λ i. is_a_or_b (sort_same day ms ss n h i) && is_answered (phase_same day ms ss J f n h i) && unwrap_or (answer_same day ms ss J f n h i) false

  no_same : (J : History) → SpeaksOf (length day.messages) J → (n : ℕ) → n ≤ length day.messages → is_answered_no (longer day ms ss) J n ≡ is_answered_no day J n
  no_same J f n h = λ i. is_a_or_b (sort_same day ms ss n h i) && is_answered (phase_same day ms ss J f n h i) && not (unwrap_or (answer_same day ms ss J f n h i) false)

  unanswered_same : (J : History) → SpeaksOf (length day.messages) J → (n : ℕ) → n ≤ length day.messages → is_unanswered (longer day ms ss) J n ≡ is_unanswered day J n
  unanswered_same J f n h = λ i. is_a_or_b (sort_same day ms ss n h i) && is_asking (phase_same day ms ss J f n h i) && nat_eq (clock J) MIDNIGHT

  cover_of_same : (n : ℕ) (e : Entry) → n ≤ length day.messages → cover_of (longer day ms ss) n e ≡ cover_of day n e
  cover_of_same n e h = λ i. record { debit = fund_account_same day ms ss n h i; credit = technical_same day ms ss n h i; amount = e.amount }

  covered_debit_same : (J : History) (n : ℕ) (e : Entry) → n ≤ length day.messages → covered_debit (longer day ms ss) J n e ≡ covered_debit day J n e
  covered_debit_same J n e h = λ i. if short_same J n (debit_account day e) h i then cover_of_same n e h i else move_of day e

  cover_moves_by_sort : (J : History) (n : ℕ) → n ≤ length day.messages → (s : Sort) → cover_moves s (longer day ms ss) J n ≡ cover_moves s day J n
  cover_moves_by_sort J n h BatchA = λ i. map (λ e. cover_of_same n e h i) (by_debits_same day ms ss n (λ k. not (is_booked J n k)) h i)
  cover_moves_by_sort J n h BatchB = λ i. map (λ e. covered_debit_same J n e h i) (debit_entries_same day ms ss n h i) ++ map (move_of day) (credit_entries_same day ms ss n h i)
  cover_moves_by_sort J n h _ = refl

  pub may_cover_same : (J : History) → SpeaksOf (length day.messages) J → (n : ℕ) → n ≤ length day.messages → may_cover (longer day ms ss) J n ≡ may_cover day J n
  may_cover_same J f n h = λ i. yes_same J f n h i && suffices_same J n h i

  cover_line_same : (J : History) (n : ℕ) → n ≤ length day.messages → cover_line (longer day ms ss) J n ≡ cover_line day J n
  cover_line_same J n h =
      let m : cover_moves (sort_of (longer day ms ss) n) (longer day ms ss) J n ≡ cover_moves (sort_of day n) day J n =
      by_sort day ms ss (λ s. cover_moves s (longer day ms ss) J n) (λ s. cover_moves s day J n) (cover_moves_by_sort J n h) n h in
      λ i. line kinds.Cover n 0 line_codes.Ok (m i)

  refusal_same : (J : History) → SpeaksOf (length day.messages) J → (n : ℕ) → n ≤ length day.messages → refusal (longer day ms ss) J n ≡ refusal day J n
  refusal_same J f n h = λ i. first_some (
      when (no_same J f n h i) line_codes.Gn
      ∷ when (yes_same J f n h i && not (suffices_same J n h i)) line_codes.Gs
      ∷ when (unanswered_same J f n h i) line_codes.Ge
      ∷ [])

  pub may_refuse_same : (J : History) → SpeaksOf (length day.messages) J → (n : ℕ) → n ≤ length day.messages → may_refuse (longer day ms ss) J n ≡ may_refuse day J n
  may_refuse_same J f n h = ap is_some (refusal_same J f n h)

  refuse_line_same : (J : History) → SpeaksOf (length day.messages) J → (n : ℕ) → n ≤ length day.messages → refuse_line (longer day ms ss) J n ≡ refuse_line day J n
  refuse_line_same J f n h = λ i. line kinds.Refuse n 0 (unwrap_or (refusal_same J f n h i) line_codes.Ge) (reversal_same J n h i)

  -- ---- what is ready

  message_want_same : (J : History) → SpeaksOf (length day.messages) J → (n : ℕ) → n ≤ length day.messages → (p : Phase) → message_want (longer day ms ss) J n p ≡ message_want day J n p
  message_want_same J f n h phases.Overdue = λ i. if may_ask_same J f n h i then wants.Ask n else wants.Expire n
  message_want_same J f n h phases.Answered = λ i. if may_cover_same J f n h i then wants.Cover n else wants.Refuse n
  message_want_same J f n h phases.Asking = refl
  message_want_same J f n h _ = λ i. if is_b (sort_same day ms ss n h i) then wants.All n else wants.Book n 0

  pub item_want_same : (J : History) → SpeaksOf (length day.messages) J → (n k : ℕ) → n ≤ length day.messages → item_want (longer day ms ss) J n k ≡ item_want day J n k
  item_want_same J f n zero h = ap (message_want (longer day ms ss) J n) (phase_same day ms ss J f n h) ∙ message_want_same J f n h (phase day J n)
  item_want_same J f n (suc k) h = refl

  -- the condition of each want of an item, where its message is the day's
  may_by_want : (J : History) → SpeaksOf (length day.messages) J → (w : Want) → IsWithin day J w → may_item (longer day ms ss) J w ≡ may_item day J w
  may_by_want J f (wants.Book n k) h = may_book_same J f n k h
  may_by_want J f (wants.All n) h = may_whole_same J f n h
  may_by_want J f (wants.Expire n) h = may_expire_same J f n h
  may_by_want J f (wants.Ask n) h = may_ask_same J f n h
  may_by_want J f (wants.Cover n) h = may_cover_same J f n h
  may_by_want J f (wants.Refuse n) h = may_refuse_same J f n h
  may_by_want J f _ h = refl

  want_within : (J : History) (n : ℕ) → n ≤ length day.messages → (p : Phase) → IsWithin day J (message_want day J n p)
  want_within J n h phases.Overdue = here (may_ask day J n)
    where
      here : (b : Bool) → IsWithin day J (if b then wants.Ask n else wants.Expire n)
      here true = h
      here false = h
  want_within J n h phases.Answered = here (may_cover day J n)
    where
      here : (b : Bool) → IsWithin day J (if b then wants.Cover n else wants.Refuse n)
      here true = h
      here false = h
  want_within J n h phases.Asking = h
  want_within J n h _ = here (is_b (sort_of day n))
    where
      here : (b : Bool) → IsWithin day J (if b then wants.All n else wants.Book n 0)
      here true = h
      here false = h

  pub item_within : (J : History) (n k : ℕ) → n ≤ length day.messages → IsWithin day J (item_want day J n k)
  item_within J n zero h = want_within J n h (phase day J n)
  item_within J n (suc k) h = h

  pub ready_item_same : (J : History) → SpeaksOf (length day.messages) J → (n k : ℕ) → n ≤ length day.messages → is_ready_item (longer day ms ss) J n k ≡ is_ready_item day J n k
  unfolding is_ready_item
  ready_item_same J f n k h = ap (may_item (longer day ms ss) J) (item_want_same J f n k h) ∙ may_by_want J f (item_want day J n k) (item_within J n k h)

  pub ready_message_same : (J : History) → SpeaksOf (length day.messages) J → (n : ℕ) → n ≤ length day.messages → is_ready_message (longer day ms ss) J n ≡ is_ready_message day J n
  unfolding is_ready_message
  ready_message_same J f n h = λ i. list_any (λ k. ready_item_same J f n k h i) (range_with_len 0 (suc (length (entries_same day ms ss n h i))))

  pub never_ready : (J : History) → SpeaksOf (length day.messages) J → (n : ℕ) → length day.messages < n → is_ready_message (longer day ms ss) J n ≡ false
  unfolding is_ready_message
  never_ready J f n l =
      any_none (is_ready_item (longer day ms ss) J n) (λ k. untaken_want (longer day ms ss) J n k (never_taken (length day.messages) n J f l)) (item_numbers (longer day ms ss) n)

  pub ready_same : (J : History) → SpeaksOf (length day.messages) J → is_ready (longer day ms ss) J ≡ is_ready day J
  unfolding is_ready
  ready_same J f =
      let m : list_any (is_ready_message (longer day ms ss) J) (message_numbers (longer day ms ss)) ≡ list_any (is_ready_message day J) (message_numbers day) =
      any_front (is_ready_message (longer day ms ss) J) (is_ready_message day J) 1 day.messages ms (λ n l. ready_message_same J f n (omega arith)) (λ n l. never_ready J f n (omega arith)) in
      λ i. m i || list_any (may_sweep day J) (account_numbers day)

  -- ---- Time, below the last of the day's own stops

  pub all_taken_same : GoesOn day ms ss → (J : History) → round day J < length day.stops → all_taken (longer day ms ss) J ≡ all_taken day J
  unfolding all_taken
  all_taken_same g J below =
      all_front (λ n. not (is_reached (longer day ms ss) J n) || is_some (taken J n)) (λ n. not (is_reached day J n) || is_some (taken J n)) 1 day.messages ms
      (λ n l. ap (λ b. not b || is_some (taken J n)) (reached_same day ms ss g J n (omega arith)))
      (λ n l m. or_left _ _ (not_from_false _ (never_reached day ms ss g J below n (omega arith) (omega arith))))

  lesser_end_same : (J : History) (least n : ℕ) → n ≤ length day.messages → lesser_end (longer day ms ss) J least n ≡ lesser_end day J least n
  lesser_end_same J least n h = λ i.
      if is_batch (sort_same day ms ss n h i) && is_accepted J n
      then lesser J (lesser J (lesser J least (unwrap_or (info_end_same day ms ss n h i) MIDNIGHT)) (unwrap_or (earliest_same day ms ss n h i) MIDNIGHT)) (end_same day ms ss n h i)
      else least

  no_end : (J : History) → SpeaksOf (length day.messages) J → (least n : ℕ) → length day.messages < n → lesser_end (longer day ms ss) J least n ≡ least
  no_end J f least n l =
      let x : ℕ = lesser J (lesser J (lesser J least (unwrap_or (info_end (longer day ms ss) n) MIDNIGHT)) (unwrap_or (earliest (longer day ms ss) n) MIDNIGHT)) (settlement_end (longer day ms ss) n) in
      ap (λ b. if b then x else least) (and_right (is_batch (sort_of (longer day ms ss) n)) (is_accepted J n) (never_accepted (length day.messages) n J f l))

  pub stop_same : GoesOn day ms ss → (J : History) → SpeaksOf (length day.messages) J → round day J < length day.stops → next_stop (longer day ms ss) J ≡ next_stop day J
  unfolding next_stop
  stop_same g J f below =
      ap (λ m. fold (lesser_end (longer day ms ss) J) m (message_numbers (longer day ms ss))) (least_same J MIDNIGHT 0 day.stops ss g.rise below)
      ∙ fold_front (lesser_end (longer day ms ss) J) (lesser_end day J) (fold (lesser J) MIDNIGHT day.stops) 1 day.messages ms
      (λ c n l. lesser_end_same J c n (omega arith)) (λ c n l. no_end J f c n (omega arith))

  -- ---- the line of a want

  pub may_same : GoesOn day ms ss → (J : History) → SpeaksOf (length day.messages) J → (w : Want) → IsWithin day J w → may (longer day ms ss) J w ≡ may day J w
  may_same g J f (wants.In n) h = may_take_same g J n h
  may_same g J f (wants.Book n k) h = may_book_same J f n k h
  may_same g J f (wants.All n) h = may_whole_same J f n h
  may_same g J f wants.Time h = λ i. nat_lt (clock J) MIDNIGHT && all_taken_same g J h i && not (ready_same J f i)
  may_same g J f (wants.Expire n) h = may_expire_same J f n h
  may_same g J f (wants.Ask n) h = may_ask_same J f n h
  may_same g J f (wants.Cover n) h = may_cover_same J f n h
  may_same g J f (wants.Refuse n) h = may_refuse_same J f n h
  may_same g J f (wants.Sweep a) h = refl
  may_same g J f wants.End h = λ i. nat_eq (clock J) MIDNIGHT && not (ready_same J f i)

  made_same : GoesOn day ms ss → (J : History) → SpeaksOf (length day.messages) J → (w : Want) → IsWithin day J w → made (longer day ms ss) J w ≡ made day J w
  made_same g J f (wants.In n) h = in_line_same J f n h
  made_same g J f (wants.Book n k) h = book_line_same n k h
  made_same g J f (wants.All n) h = all_line_same n h
  made_same g J f wants.Time h = λ i. line kinds.Time 0 (stop_same g J f h i) line_codes.Ok []
  made_same g J f (wants.Expire n) h = expire_line_same J f n h
  made_same g J f (wants.Ask n) h = refl
  made_same g J f (wants.Cover n) h = cover_line_same J n h
  made_same g J f (wants.Refuse n) h = refuse_line_same J f n h
  made_same g J f (wants.Sweep a) h = refl
  made_same g J f wants.End h = refl

  pub line_same : GoesOn day ms ss → (J : History) → SpeaksOf (length day.messages) J → (w : Want) → IsWithin day J w → line_of (longer day ms ss) J w ≡ line_of day J w
  unfolding line_of
  line_same g J f w h = λ i. line_if (not (is_ended J) && may_same g J f w h i) (made_same g J f w h i)
