-- The room that a day has for more changes neither what its events make nor what is told of it.
use Rattle.std.proofs.Common.{◌≡◌, ◌∙◌, ◌+◌, ◌++◌, ℕ, suc, not, List, [], ◌∷◌, Option, Some, None, length, refl, take}
use Rattle.std.specs.Prelude.{◌&&◌, filter, fold, if◌then◌else◌, is_some, map, nat_eq, nat_le}
use Rattle.std.specs.List.{flat_map}
use Rattle.batch_records.specs.DayRecord.{Day, Room}
use Rattle.batch_records.specs.Rooms.{in_room}
use Rattle.commit_journal.specs.declared.line.Code.TheVariants as line_codes
use Rattle.commit_journal.specs.declared.line.Want.{Want}
use Rattle.commit_journal.specs.declared.line.Want.TheVariants as wants
use Rattle.commit_journal.specs.Line.{History, Line}
use Rattle.commit_journal.specs.Text.{line_text}
use Rattle.program_answers.specs.Answers.{ok_text, refusal_text}
use Rattle.machine.specs.Laws.{is_order}
use Rattle.machine.specs.Making.Lines.{item_want}
use Rattle.machine.specs.Orders.Bounds.{left}
use Rattle.machine.specs.Orders.Order.{append, empty_all, is_past, lap, one_scan, quiet, scan, take_all, time_want, to_end, to_round, until, with_line}
use Rattle.machine.specs.Records.Messages.{Sort, BatchA, BatchB, BatchD, BatchE, entries, entry_numbers, message_numbers, sort_of}
use Rattle.machine.specs.Records.Setup.{account_numbers}
use Rattle.machine.specs.Telling.Balances.{balance}
use Rattle.machine.specs.Telling.Facts.{round, takes_well}
use Rattle.machine.specs.Telling.History.{is_ended}
use Rattle.settlement_laws.proofs.EachLaw.SameVersion.{item_want_in_room, line_in_room, phase_in_room, revoked_in_room, target_in_room}
use Rattle.live_records.specs.Heard.{Call, Takes, Stops, Refuses, Breaks}
use Rattle.live_order.specs.LiveOrder.{Event, Arrives, Stop, Over, events, has_reached, laps_to, live, live_journal, live_step, stop_at}
use Rattle.status_messages.specs.declared.status.TurnCode.TheVariants as turn_codes
use Rattle.status_messages.specs.Statuses.{ask_statuses, failure_statuses, information_statuses, intake_statuses, is_revoked, is_settled, move_statuses, objection_statuses, objection_target, place_after, rejection_statuses, rejections_as, revocation, revocations_as, revocations_of, settlement_statuses, statuses, turn_told}
use Rattle.status_messages.specs.Telling.{texts}
use Rattle.as_client.specs.Reports.{holding_text}
use Rattle.live_day.specs.Told.{closing, refused_text, told_behind, told_calls, told_end, told_event}

module _ (room : Room) (day : Day) where
  -- ---- what is made

  append_alike : (J : History) (w : Want) → append (in_room room day) J w ≡ append day J w
  unfolding append
  append_alike J w = λ i. with_line (line_in_room room day J w i) J

  item_alike : (J : History) (n k : ℕ) → append (in_room room day) J (item_want (in_room room day) J n k) ≡ append day J (item_want day J n k)
  item_alike J n k = λ i. append_alike J (item_want_in_room room day J n k i) i

  scan_alike : (J : History) → scan (in_room room day) J ≡ scan day J
  unfolding scan
  scan_alike J = λ i. one_scan (λ K n. one_scan (λ L k. item_alike L (suc n) k i) K (suc (length (entries day (suc n))))) J (length day.messages)

  quiet_alike : (J : History) → quiet (in_room room day) J ≡ quiet day J
  unfolding quiet
  quiet_alike J = λ i. until (λ K. nat_eq (length (scan_alike K i)) (length K)) (λ K. scan_alike K i) (left day J) J

  take_all_alike : (J : History) → take_all (in_room room day) J ≡ take_all day J
  unfolding take_all
  take_all_alike J = λ i. one_scan (λ K n. append_alike K (wants.In (suc n)) i) J (length day.messages)

  empty_all_alike : (J : History) → empty_all (in_room room day) J ≡ empty_all day J
  unfolding empty_all
  empty_all_alike J = λ i. one_scan (λ K a. append_alike K (wants.Sweep (suc a)) i) J (length day.accounts)

  lap_alike : (J : History) → lap (in_room room day) J ≡ lap day J
  unfolding lap
  lap_alike J =
      (λ i. append_alike (empty_all (in_room room day) (quiet (in_room room day) (take_all (in_room room day) J))) (time_want (empty_all (in_room room day) (quiet (in_room room day) (take_all (in_room room day) J)))) i)
      ∙ (λ i. append day (empty_all_alike (quiet_alike (take_all_alike J i) i) i) (time_want (empty_all_alike (quiet_alike (take_all_alike J i) i) i)))

  to_round_alike : (J : History) → to_round (in_room room day) J ≡ to_round day J
  unfolding to_round
  to_round_alike J = λ i. until (is_past day (round day J)) (λ K. lap_alike K i) (left day J) J

  to_end_alike : (J : History) → to_end (in_room room day) J ≡ to_end day J
  unfolding to_end
  to_end_alike J = λ i. until is_ended (λ K. to_round_alike K i) (left day J) J

  laps_alike : (time : ℕ) (J : History) → laps_to (in_room room day) time J ≡ laps_to day time J
  unfolding laps_to
  laps_alike time J = λ i. until (has_reached time) (λ K. lap_alike K i) (left day J) J

  step_alike : (J : History) (e : Event) → live_step (in_room room day) J e ≡ live_step day J e
  step_alike J (Arrives n) = λ i. quiet_alike (append_alike J (wants.In n) i) i
  step_alike J (Stop r) = λ i. quiet_alike (laps_alike (stop_at day r) J i) i
  step_alike J Over = to_end_alike J

  pub live_in_room : (k : ℕ) (J : History) → live (in_room room day) k J ≡ live day k J
  unfolding live events
  live_in_room k J = λ i. fold (λ K e. step_alike K e i) J (take k (events day))

  journal_in_room : live_journal (in_room room day) ≡ live_journal day
  unfolding live_journal events
  journal_in_room = λ i. fold (λ K e. step_alike K e i) [] (events day)

  -- ---- what a line tells

  revocations_by : (J : History) (l : Line) (b : ℕ) (s : Sort) → revocations_as s (in_room room day) J l b ≡ revocations_as s day J l b
  revocations_by J l b BatchA = refl
  revocations_by J l b BatchB = refl
  revocations_by J l b BatchE = λ i.
      map (revocation day J b) (filter (λ k. is_some (revoked_in_room room day (l ∷ J) b k i) && not (is_some (revoked_in_room room day J b k i))) (entry_numbers day b))
      ++ (if is_revoked (phase_in_room room day (l ∷ J) b i) then (revocation day J b 0 ∷ []) else [])
  revocations_by J l b _ = refl

  revocations_alike : (J : History) (l : Line) (o : Option ℕ) → revocations_of (in_room room day) J l o ≡ revocations_of day J l o
  revocations_alike J l None = refl
  revocations_alike J l (Some b) = revocations_by J l b (sort_of day b)

  aim_by : (J : History) (n : ℕ) (s : Sort) → objection_target s (in_room room day) J n ≡ objection_target s day J n
  aim_by J n Sort.Object = target_in_room room day J n
  aim_by J n _ = refl

  objection_alike : (J : History) (l : Line) → objection_statuses (in_room room day) J l ≡ objection_statuses day J l
  objection_alike J l = λ i. if takes_well l then revocations_alike J l (aim_by J l.head.msg (sort_of day l.head.msg) i) i else []

  rejections_by : (J : History) (n : ℕ) (s : Sort) → rejections_as s (in_room room day) J n ≡ rejections_as s day J n
  rejections_by J n BatchD = refl
  rejections_by J n _ = refl

  rejection_alike : (J : History) (l : Line) → rejection_statuses (in_room room day) J l ≡ rejection_statuses day J l
  rejection_alike J l = λ i. if takes_well l then rejections_by J l.head.msg (sort_of day l.head.msg) i else []

  settlement_alike : (J : History) (l : Line) → settlement_statuses (in_room room day) J l ≡ settlement_statuses day J l
  settlement_alike J l = λ i.
      map (λ n. turn_told day (place_after J) turn_codes.Setl n 0 line_codes.Ok)
      (filter (λ n. is_order (sort_of day n) && is_settled (phase_in_room room day (l ∷ J) n i) && not (is_settled (phase_in_room room day J n i))) (message_numbers day))

  statuses_alike : (J : History) (l : Line) → statuses (in_room room day) J l ≡ statuses day J l
  unfolding statuses
  statuses_alike J l = λ i.
      flat_map (move_statuses day (place_after J)) l.moves
      ++ intake_statuses day J l
      ++ information_statuses day J l
      ++ objection_alike J l i
      ++ rejection_alike J l i
      ++ ask_statuses day J l
      ++ failure_statuses day J l
      ++ settlement_alike J l i

  -- ---- what is told

  behind_alike : (first : ℕ) (J : History) → told_behind (in_room room day) first J ≡ told_behind day first J
  unfolding told_behind
  behind_alike first [] = refl
  behind_alike first (l ∷ J) = λ i. behind_alike first J i ++ (if nat_le first (length J) then (line_text (suc (length J)) l ++ texts (statuses_alike J l i)) else [])

  pub event_in_room : (k : ℕ) → told_event (in_room room day) k ≡ told_event day k
  event_in_room k = λ i. behind_alike (length (live_in_room k [] i)) (live_in_room (suc k) [] i) i

  pub calls_in_room : (k : ℕ) (calls : List Call) → told_calls (in_room room day) k calls ≡ told_calls day k calls
  unfolding told_calls
  calls_in_room k [] = refl
  calls_in_room k (Takes ∷ calls) = λ i. event_in_room k i ++ calls_in_room (k + 1) calls i
  calls_in_room k (Stops ∷ calls) = λ i. event_in_room k i ++ calls_in_room (k + 1) calls i
  calls_in_room k (Refuses n c ∷ calls) = λ i. refused_text n c ++ calls_in_room k calls i
  calls_in_room k (Breaks n c ∷ calls) = λ i. refusal_text n c ++ calls_in_room k calls i

  closing_in_room : closing (in_room room day) ≡ closing day
  closing_in_room = λ i. flat_map (λ a. holding_text day a (balance day (journal_in_room i) a)) (account_numbers day) ++ ok_text (length (journal_in_room i))

  pub end_in_room : told_end (in_room room day) ≡ told_end day
  end_in_room = λ i. event_in_room (length day.messages + length day.stops) i ++ closing_in_room i
