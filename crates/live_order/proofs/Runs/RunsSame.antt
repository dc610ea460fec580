-- From a legal history of a sound day, a longer day's scans make what the day's own make, and its turns too while the clock is below the
-- last of the day's own stops: what is left to do of the further messages has no line.
use Rattle.std.proofs.Common.{◌≡◌, ◌∙◌, ℕ, zero, suc, ◌+◌, ◌<◌, ◌≤◌, arith, Bool, true, false, List, length, None, refl, sym, ap, subst}
use Rattle.std.specs.Prelude.{if◌then◌else◌, nat_eq, nat_lt, nat_le, sum_by, count_by, unwrap_or}
use Rattle.std.proofs.lemmas.Bool.{and_left, and_right, leb-false}
use Rattle.std.proofs.lemmas.List.{length-append}
use Rattle.std.proofs.lemmas.List.Sums.{sum_by-append}
use Rattle.period_calendar.specs.declared.time.TheConstants.{MIDNIGHT}
use Rattle.batch_records.specs.DayRecord.{Day}
use Rattle.batch_records.specs.declared.day.Message.{Message}
use Rattle.batch_records.specs.Sound.{entries_in, is_sound}
use Rattle.commit_journal.specs.declared.line.Want.{Want}
use Rattle.commit_journal.specs.declared.line.Want.TheVariants as wants
use Rattle.commit_journal.specs.Line.{History}
use Rattle.machine.specs.Records.Messages.{entries, is_b, sort_of}
use Rattle.machine.specs.Telling.History.{taken, clock}
use Rattle.machine.specs.Telling.Facts.{round}
use Rattle.machine.specs.Stages.Pending.{item}
use Rattle.machine.specs.Making.Lines.{may, item_want, message_want}
use Rattle.machine.specs.Legal.{IsLegal}
use Rattle.machine.specs.Orders.Bounds.{entries_of_all, left}
use Rattle.machine.specs.Orders.Order.{append, with_line, one_scan, until, take_step, take_all, item_step, items_step, scan, empty_step, empty_all, is_quiet, quiet, time_want, with_time, lap}
use Rattle.settlement_laws.proofs.Base.Appending.{append-refused}
use Rattle.settlement_laws.proofs.Base.Growing.{Runs, grows-append, until-same}
use Rattle.settlement_laws.proofs.DayEnd.PlainRuns.{grows-items, grows-scan, grows-lap, runs-quiet, lap-moves}
use Rattle.live_order.specs.Longer.{longer, GoesOn, IsWithin}
use Rattle.live_order.specs.LiveOrder.{has_reached, stop_at, laps_to}
use Rattle.live_order.proofs.Longer.Ranges.{numbered_front}
use Rattle.live_order.proofs.Longer.Known.{entries_same}
use Rattle.live_order.proofs.Longer.Spoken.{never_taken}
use Rattle.live_order.proofs.Longer.PendingSame.{phase_untaken, never_pending}
use Rattle.live_order.proofs.Longer.RoundsSame.{never_reached}
use Rattle.live_order.proofs.Longer.LinesSame.{line_same, item_want_same, item_within}
use Rattle.live_order.proofs.Runs.StatedStops.{before_last, stop_low}
use Rattle.live_order.proofs.Runs.Speaking.{speaks, early}
use Rattle.live_order.proofs.Runs.Keepers.{IsNoTime, clock_kept, take_keeps, take_all_keeps, quiet_keeps, empty_keeps}
use Rattle.live_order.proofs.Runs.RunsAlike.{scan_idle, scan_alike, scan_front, until_alike}

-- nothing of an untaken message has a line
untaken_may : (day : Day) (J : History) (n k : ℕ) → taken J n ≡ None → may day J (item_want day J n k) ≡ false
untaken_may day J n zero e = ap (may day J) (ap (message_want day J n) (phase_untaken day J n e)) ∙ here (is_b (sort_of day n)) refl
  where
    here : (b : Bool) → is_b (sort_of day n) ≡ b → may day J (if b then wants.All n else wants.Book n 0) ≡ false
    here true f = and_left _ _ (and_left _ _ (and_right _ _ (never_pending day J (item n 0) e)))
    here false f = and_left _ _ (and_left _ _ (never_pending day J (item n 0) e))
untaken_may day J n (suc k) e = and_left _ _ (and_left _ _ (never_pending day J (item n (suc k)) e))

-- so no scan makes anything of it
pub untaken_items : (day : Day) (J : History) (n : ℕ) → taken J (suc n) ≡ None → items_step day J n ≡ J
untaken_items day J n e =
    scan_idle (item_step day (suc n)) J (suc (length (entries day (suc n))))
    (λ k l. append-refused day J (item_want day J (suc n) k) (untaken_may day J (suc n) k e))

-- a legal history before the last of the day's stops
pub record IsBelow (day : Day) (J : History) : Type 0 where
  pub legal : IsLegal day J
  pub below : round day J < length day.stops

below_append : (day : Day) (J : History) (w : Want) → IsNoTime w → IsBelow day J → IsBelow day (append day J w)
below_append day J w h q = record {
  legal = (grows-append day J w).legal q.legal;
  below = subst (λ c. count_by (λ stop. nat_le stop c) day.stops < length day.stops) (sym (clock_kept day J w h)) q.below;
}

-- a legal history whose clock is below a stop isn't ended, and turns go on
pub runs_to_stop : (day : Day) → is_sound day ≡ true → (time : ℕ) → time ≤ 86400 → Runs day (has_reached time) (lap day)
runs_to_stop day sound time early_time = record {
  grows = grows-lap day;
  moves = λ K legal e. lap-moves day sound K legal (early day K legal (let l = leb-false time (clock K) e in omega (arith, l, early_time)));
}

module _ (day : Day) (ms : List Message) (ss : List ℕ) (g : GoesOn day ms ss) (sound : is_sound day ≡ true) where
  pub append_same : (J : History) → IsLegal day J → (w : Want) → IsWithin day J w → append (longer day ms ss) J w ≡ append day J w
  unfolding append
  append_same J legal w h = ap (λ o. with_line o J) (line_same day ms ss g J (speaks day J legal) w h)

  legal_append : (J : History) (w : Want) → IsLegal day J → IsLegal day (append day J w)
  legal_append J w legal = (grows-append day J w).legal legal

  more_left : (J : History) → left day J ≤ left (longer day ms ss) J
  more_left J =
      let a = length-append day.messages ms in
      let b : entries_of_all (longer day ms ss) ≡ entries_of_all day + sum_by (λ m. length (entries_in m.body)) ms = sum_by-append (λ m. length (entries_in m.body)) day.messages ms in
      omega (arith, a, b)

  -- ---- scans

  item_step_same : (J : History) (n k : ℕ) → IsLegal day J → n ≤ length day.messages → item_step (longer day ms ss) n J k ≡ item_step day n J k
  item_step_same J n k legal h =
      ap (append (longer day ms ss) J) (item_want_same day ms ss J (speaks day J legal) n k h)
      ∙ append_same J legal (item_want day J n k) (item_within day ms ss J n k h)

  items_step_same : (J : History) (n : ℕ) → IsLegal day J → n < length day.messages → items_step (longer day ms ss) J n ≡ items_step day J n
  items_step_same J n legal h =
      ap (λ es. one_scan (item_step (longer day ms ss) (suc n)) J (suc (length es))) (entries_same day ms ss (suc n) (omega arith))
      ∙ scan_alike (IsLegal day) (item_step (longer day ms ss) (suc n)) (item_step day (suc n)) J (suc (length (entries day (suc n)))) legal
      (λ K k l q. item_step_same K (suc n) k q (omega arith)) (λ K k q. legal_append K (item_want day K (suc n) k) q)

  items_idle : (J : History) (n : ℕ) → IsLegal day J → length day.messages ≤ n → items_step (longer day ms ss) J n ≡ J
  items_idle J n legal h = untaken_items (longer day ms ss) J n (never_taken (length day.messages) (suc n) J (speaks day J legal) (omega arith))

  legal_items : (J : History) (n : ℕ) → IsLegal day J → IsLegal day (items_step day J n)
  legal_items J n legal = (grows-items day J n).legal legal

  pub scan_same : (J : History) → IsLegal day J → scan (longer day ms ss) J ≡ scan day J
  unfolding scan
  scan_same J legal =
      ap (one_scan (items_step (longer day ms ss)) J) (length-append day.messages ms)
      ∙ scan_front (IsLegal day) (items_step (longer day ms ss)) (items_step day) J (length day.messages) (length ms) legal
      (λ K n l q. items_step_same K n q l) legal_items (λ K n l m q. items_idle K n q l)

  legal_scan : (J : History) → IsLegal day J → IsLegal day (scan day J)
  legal_scan J legal = (grows-scan day J).legal legal

  pub quiet_same : (J : History) → IsLegal day J → quiet (longer day ms ss) J ≡ quiet day J
  unfolding quiet
  quiet_same J legal =
      until_alike (IsLegal day) (is_quiet (longer day ms ss)) (is_quiet day) (scan (longer day ms ss)) (scan day)
      (λ K q. ap (λ L. nat_eq (length L) (length K)) (scan_same K q)) (λ K q e. scan_same K q) legal_scan (left (longer day ms ss) J) J legal
      ∙ until-same day sound (is_quiet day) (scan day) (runs-quiet day) (left (longer day ms ss) J) (left day J) J legal (more_left J) (omega arith)

  -- ---- turns, below the last of the day's own stops

  take_step_same : (J : History) (n : ℕ) → IsBelow day J → n < length day.messages → take_step (longer day ms ss) J n ≡ take_step day J n
  take_step_same J n q h = append_same J q.legal (wants.In (suc n)) (omega arith)

  take_idle : (J : History) (n : ℕ) → IsBelow day J → length day.messages ≤ n → n < length day.messages + length ms → take_step (longer day ms ss) J n ≡ J
  take_idle J n q low high =
      append-refused (longer day ms ss) J (wants.In (suc n)) (and_left _ _ (and_right _ _ (never_reached day ms ss g J q.below (suc n) (omega arith) (omega arith))))

  take_all_same : (J : History) → IsBelow day J → take_all (longer day ms ss) J ≡ take_all day J
  unfolding take_all
  take_all_same J q =
      ap (one_scan (take_step (longer day ms ss)) J) (length-append day.messages ms)
      ∙ scan_front (IsBelow day) (take_step (longer day ms ss)) (take_step day) J (length day.messages) (length ms) q
      (λ K n l r. take_step_same K n r l) (take_keeps day (IsBelow day) (below_append day)) (λ K n l m r. take_idle K n r l m)

  empty_all_same : (J : History) → IsLegal day J → empty_all (longer day ms ss) J ≡ empty_all day J
  unfolding empty_all
  empty_all_same J legal =
      scan_alike (IsLegal day) (empty_step (longer day ms ss)) (empty_step day) J (length day.accounts) legal
      (λ K a l q. append_same K q (wants.Sweep (suc a)) tt) (λ K a q. legal_append K (wants.Sweep (suc a)) q)

  with_time_same : (J : History) → IsBelow day J → with_time (longer day ms ss) J ≡ with_time day J
  with_time_same J q = append_same J q.legal (time_want J) (here (nat_lt (clock J) MIDNIGHT))
    where
      here : (b : Bool) → IsWithin day J (if b then wants.Time else wants.End)
      here true = q.below
      here false = tt

  pub lap_same : (J : History) → IsBelow day J → lap (longer day ms ss) J ≡ lap day J
  unfolding lap
  lap_same J q =
      let a : IsBelow day (take_all day J) = take_all_keeps day (IsBelow day) (below_append day) J q in
      let b : IsBelow day (quiet day (take_all day J)) = quiet_keeps day (IsBelow day) (below_append day) (take_all day J) a in
      let c : IsBelow day (empty_all day (quiet day (take_all day J))) = empty_keeps day (IsBelow day) (below_append day) (quiet day (take_all day J)) b in
      ap (λ K. with_time (longer day ms ss) (empty_all (longer day ms ss) (quiet (longer day ms ss) K))) (take_all_same J q)
      ∙ ap (λ K. with_time (longer day ms ss) (empty_all (longer day ms ss) K)) (quiet_same (take_all day J) a.legal)
      ∙ ap (with_time (longer day ms ss)) (empty_all_same (quiet day (take_all day J)) b.legal)
      ∙ with_time_same (empty_all day (quiet day (take_all day J))) c

  -- ---- up to one of the day's own stops

  pub stop_at_same : (r : ℕ) → r ≤ length day.stops → stop_at (longer day ms ss) r ≡ stop_at day r
  stop_at_same r h = ap (λ o. unwrap_or o 0) (numbered_front day.stops ss r h)

  pub laps_to_same : (J : History) → IsLegal day J → (r : ℕ) → r ≤ length day.stops → laps_to (longer day ms ss) (stop_at (longer day ms ss) r) J ≡ laps_to day (stop_at day r) J
  unfolding laps_to
  laps_to_same J legal r h =
      ap (λ t. until (has_reached t) (lap (longer day ms ss)) (left (longer day ms ss) J) J) (stop_at_same r h)
      ∙ until_alike (IsLegal day) (has_reached (stop_at day r)) (has_reached (stop_at day r)) (lap (longer day ms ss)) (lap day)
      (λ K q. refl)
      (λ K q e. lap_same K (record { legal = q; below = before_last day r (clock K) (leb-false (stop_at day r) (clock K) e) }))
      (λ K q. (grows-lap day K).legal q) (left (longer day ms ss) J) J legal
      ∙ until-same day sound (has_reached (stop_at day r)) (lap day) (runs_to_stop day sound (stop_at day r) (let l = stop_low day sound r in omega (arith, l))) (left (longer day ms ss) J) (left day J) J legal (more_left J) (omega arith)
