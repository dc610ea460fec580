-- At a stop the clock moves from time to time until it has come there, and after each Time line what is ready is made. So turns, which
-- take messages, scan and empty the sub-accounts before they move the clock, make nothing else there.
use Rattle.std.proofs.Common.{◌≡◌, ◌∙◌, ℕ, zero, suc, ◌+◌, ◌<◌, ◌≤◌, arith, true, false, List, [], ◌∷◌, ◌++◌, length, take, Option, Some, None, is_some, refl, sym, ap, subst, ⊎_elim}
use Rattle.std.specs.Prelude.{if◌then◌else◌, nat_le, count_by, slice_get}
use Rattle.std.proofs.lemmas.Bool.{and_left, and_right, cases_Bool, cond-true, leb-false, le-leb, lt-ltb, ne_eqb}
use Rattle.std.proofs.lemmas.List.Sums.{sum_by-append}
use Rattle.batch_records.specs.DayRecord.{Day}
use Rattle.batch_records.specs.declared.day.Message.{Message}
use Rattle.batch_records.specs.Sound.{is_sound}
use Rattle.commit_journal.specs.declared.line.Want.TheVariants as wants
use Rattle.commit_journal.specs.Line.{Line, History}
use Rattle.machine.specs.Telling.History.{clock, taken}
use Rattle.machine.specs.Making.Lines.{line_of}
use Rattle.machine.specs.Legal.{IsLegal}
use Rattle.machine.specs.Orders.Bounds.{left}
use Rattle.machine.specs.Orders.Order.{append, with_line, until, take_step, take_all, scan, empty_step, empty_all, quiet, with_time, lap}
use Rattle.settlement_laws.proofs.Base.Appending.{append-refused}
use Rattle.settlement_laws.proofs.Base.Growing.{grows-append, left-falls, until-over}
use Rattle.settlement_laws.proofs.Base.Induction.{line_of-some}
use Rattle.settlement_laws.proofs.DayEnd.LineBound.{length-bound}
use Rattle.settlement_laws.proofs.DayEnd.PlainRuns.{grows-lap, grows-quiet, lap-moves, quiet-over, scans_stop}
use Rattle.settlement_laws.proofs.DayEnd.Stops.{next_stop-bounds}
use Rattle.live_order.specs.LiveOrder.{Stop, events, is_arrival, cut, has_reached, stop_at, laps_to, times_to, live_step, live}
use Rattle.live_order.specs.Longer.{longer, GoesOn}
use Rattle.live_order.proofs.Runs.StatedStops.{before_last, stop_low}
use Rattle.live_order.proofs.Runs.Speaking.{early}
use Rattle.live_order.proofs.Runs.Keepers.{clock_kept, quiet_keeps}
use Rattle.live_order.proofs.Runs.RunsAlike.{scan_idle, until_alike, until_turn}
use Rattle.live_order.proofs.Runs.RunsSame.{append_same, quiet_same, scan_same, stop_at_same}
use Rattle.live_order.proofs.Events.LiveGrows.{take_more_one}
use Rattle.live_order.proofs.Events.Causal.{cut_sound, cut_onward, live_before, live_causal, live_next, stop_within}
use Rattle.live_order.proofs.Events.KeepsUp.{live_settles, live_takes, not_none, taken_stays}

abbrev time_step : Day → History → History
time_step day K = quiet day (append day K wants.Time)

-- a Time line moves the clock
time_moves : (day : Day) (J : History) → clock J < 86400 → length J < length (append day J wants.Time) → clock J < clock (append day J wants.Time)
unfolding append clock
time_moves day J low more = here (line_of day J wants.Time) refl more
  where
    here : (o : Option Line) → line_of day J wants.Time ≡ o → length J < length (with_line o J) → clock J < clock (with_line o J)
    here None e m = absurd (omega (arith, m))
    here (Some l) e m = subst (λ (x : Line). clock J < clock (x ∷ J)) (line_of-some day J wants.Time l e).2 (next_stop-bounds day J low).0

-- ---- a day all of whose messages are taken

record IsTaken (day : Day) (J : History) : Type 0 where
  legal : IsLegal day J
  came : (n : ℕ) → 1 ≤ n → n ≤ length day.messages → is_some (taken J n) ≡ true

module _ (day : Day) (sound : is_sound day ≡ true) where
  taking_idle : (J : History) → IsTaken day J → take_all day J ≡ J
  unfolding take_all
  taking_idle J a =
      scan_idle (take_step day) J (length day.messages)
      (λ n l. append-refused day J (wants.In (suc n)) (and_left _ _ (and_left _ _ (and_right _ _ (not_none (taken J (suc n)) (a.came (suc n) (omega arith) (omega arith)))))))

  emptying_idle : (J : History) → clock J < 86400 → empty_all day J ≡ J
  unfolding empty_all
  emptying_idle J low =
      scan_idle (empty_step day) J (length day.accounts)
      (λ a l. append-refused day J (wants.Sweep (suc a)) (and_left _ _ (and_right _ _ (ne_eqb (clock J) 86400 (λ e. omega (arith, e, low))))))

  quiet_clock : (J : History) → clock (quiet day J) ≡ clock J
  quiet_clock J = quiet_keeps day (λ K. clock K ≡ clock J) (λ K w h e. clock_kept day K w h ∙ e) J refl

  -- so a turn is the scans and the Time line
  lap_is : (J : History) → IsTaken day J → clock J < 86400 → lap day J ≡ append day (quiet day J) wants.Time
  unfolding lap
  lap_is J a low =
      let q = quiet_clock J in
      let l : clock (quiet day J) < 86400 = omega (arith, q, low) in
      ap (λ K. with_time day (empty_all day (quiet day K))) (taking_idle J a)
      ∙ ap (with_time day) (emptying_idle (quiet day J) l)
      ∙ ap (append day (quiet day J)) (cond-true _ _ _ (lt-ltb (clock (quiet day J)) 86400 l))

  quiet_taken : (J : History) → IsTaken day J → IsTaken day (quiet day J)
  quiet_taken J a =
      let g = grows-quiet day J in
      record { legal = g.legal a.legal; came = λ n low high. taken_stays day J (quiet day J) n g (a.came n low high) }

  lap_taken : (J : History) → IsTaken day J → IsTaken day (lap day J)
  lap_taken J a =
      let g = grows-lap day J in
      record { legal = g.legal a.legal; came = λ n low high. taken_stays day J (lap day J) n g (a.came n low high) }

  -- and moves the clock
  lap_later : (J : History) → IsTaken day J → clock J < 86400 → clock J < clock (lap day J)
  lap_later J a low =
      let K : History = quiet day J in
      let b : IsTaken day K = quiet_taken J a in
      let q : clock K ≡ clock J = quiet_clock J in
      let l : clock K < 86400 = omega (arith, q, low) in
      let still : quiet day K ≡ K = quiet-over day K (ap length (scans_stop day J sound a.legal)) in
      let same : lap day K ≡ append day K wants.Time = lap_is K b l ∙ ap (λ M. append day M wants.Time) still in
      let more : length K < length (append day K wants.Time) = subst (λ M. length K < length M) same (lap-moves day sound K b.legal (early day K b.legal l)) in
      let moved : clock K < clock (append day K wants.Time) = time_moves day K l more in
      let whole : clock (lap day J) ≡ clock (append day K wants.Time) = ap clock (lap_is J a low) in
      omega (arith, q, moved, whole)

  module _ (time : ℕ) (early_time : time < 86400) where
    at_time : (f h : ℕ) (J : History) → has_reached time J ≡ true →
        quiet day (until (has_reached time) (lap day) f J) ≡ until (has_reached time) (time_step day) h (quiet day J)
    at_time f h J t =
        ap (quiet day) (until-over (has_reached time) (lap day) f J t)
        ∙ sym (until-over (has_reached time) (time_step day) h (quiet day J) (ap (nat_le time) (quiet_clock J) ∙ t))

    -- the scans at the end of each turn but the first, and at the last end, are those after each Time line
    shifted : (f h : ℕ) (J : History) → IsTaken day J → left day J ≤ f → time ≤ clock J + h →
        quiet day (until (has_reached time) (lap day) f J) ≡ until (has_reached time) (time_step day) h (quiet day J)
    shifted zero h J a ef eh =
        ⊎_elim
        (λ (t : has_reached time J ≡ true). at_time zero h J t)
        (λ (n : has_reached time J ≡ false).
        let b = leb-false time (clock J) n in
        let m = lap-moves day sound J a.legal (early day J a.legal (omega (arith, b, early_time))) in
        let k = length-bound day sound (lap day J) (lap_taken J a).legal in
        absurd (omega (arith, ef, m, k)))
        (cases_Bool (has_reached time J))
    shifted (suc f) zero J a ef eh = at_time (suc f) zero J (le-leb time (clock J) (omega (arith, eh)))
    shifted (suc f) (suc h) J a ef eh =
        ⊎_elim
        (λ (t : has_reached time J ≡ true). at_time (suc f) (suc h) J t)
        (λ (n : has_reached time J ≡ false).
        let b = leb-false time (clock J) n in
        let low : clock J < 86400 = omega (arith, b, early_time) in
        let m = lap-moves day sound J a.legal (early day J a.legal low) in
        let fewer = left-falls day sound J (lap day J) (lap_taken J a).legal m in
        let later = lap_later J a low in
        ap (quiet day) (until_turn (has_reached time) (lap day) f J n)
        ∙ shifted f h (lap day J) (lap_taken J a) (omega (arith, ef, fewer)) (omega (arith, eh, later))
        ∙ ap (λ K. until (has_reached time) (time_step day) h (quiet day K)) (lap_is J a low)
        ∙ sym (until_turn (has_reached time) (time_step day) h (quiet day J) (ap (nat_le time) (quiet_clock J) ∙ n)))
        (cases_Bool (has_reached time J))

    stop_times : (J : History) → IsTaken day J → scan day J ≡ J → quiet day (laps_to day time J) ≡ times_to day time J
    unfolding laps_to times_to
    stop_times J a settled =
        shifted (left day J) time J a (omega arith) (omega arith)
        ∙ ap (until (has_reached time) (time_step day) time) (quiet-over day J (ap length settled))

-- ---- with a longer day

times_same : (day : Day) (ms : List Message) (ss : List ℕ) (g : GoesOn day ms ss) (sound : is_sound day ≡ true) (J : History) → IsLegal day J → (r : ℕ) → times_to (longer day ms ss) (stop_at day r) J ≡ times_to day (stop_at day r) J
unfolding times_to
times_same day ms ss g sound J legal r =
    until_alike (IsLegal day) (has_reached (stop_at day r)) (has_reached (stop_at day r)) (time_step (longer day ms ss)) (time_step day)
    (λ K q. refl)
    (λ K q e.
    ap (quiet (longer day ms ss)) (append_same day ms ss g sound K q wants.Time (before_last day r (clock K) (leb-false (stop_at day r) (clock K) e)))
    ∙ quiet_same day ms ss g sound (append day K wants.Time) ((grows-append day K wants.Time).legal q))
    (λ K q. (grows-quiet day (append day K wants.Time)).legal ((grows-append day K wants.Time).legal q))
    (stop_at day r) J legal

-- ---- at a stop of the day

none_arrives : (day : Day) (k r : ℕ) → slice_get (events day) k ≡ Some (Stop r) → count_by is_arrival (take (suc k) (events day)) ≡ count_by is_arrival (take k (events day))
none_arrives day k r there =
    let a : count_by is_arrival (take (suc k) (events day)) ≡ count_by is_arrival (take k (events day) ++ (Stop r ∷ [])) = ap (count_by is_arrival) (take_more_one (events day) k (Stop r) there) in
    let b : count_by is_arrival (take k (events day) ++ (Stop r ∷ [])) ≡ count_by is_arrival (take k (events day)) + count_by is_arrival (Stop r ∷ []) =
    sum_by-append (λ e. if is_arrival e then 1 else 0) (take k (events day)) (Stop r ∷ []) in
    let c : count_by is_arrival (Stop r ∷ []) ≡ 0 = refl in
    omega (arith, a, b, c)

messages_stay : (day : Day) (k r : ℕ) → slice_get (events day) k ≡ Some (Stop r) → length (cut day (suc k)).messages ≡ length (cut day k).messages
unfolding cut
messages_stay day k r there = ap (λ c. length (take c day.messages)) (none_arrives day k r there)

pub live_at_stops : (day : Day) → is_sound day ≡ true → (k r : ℕ) → slice_get (events day) k ≡ Some (Stop r) → live day (suc k) [] ≡ times_to day (stop_at day r) (live day k [])
live_at_stops day sound k r there =
    let C : Day = cut day (suc k) in
    let J : History = live day k [] in
    let sound_cut : is_sound C ≡ true = cut_sound day sound (suc k) in
    let onward = cut_onward day sound (suc k) in
    let same : longer C onward.0 onward.1 ≡ day = onward.2 in
    let legal : IsLegal C J = live_before day sound k (Stop r) there in
    let fewer = messages_stay day k r there in
    let all : IsTaken C J = record { legal = legal; came = λ n low high. live_takes day sound k n low (omega (arith, fewer, high)) } in
    let settled : scan C J ≡ J = sym (scan_same C onward.0 onward.1 onward.3 sound_cut J legal) ∙ ap (λ d. scan d J) same ∙ live_settles day sound k in
    let time : stop_at C r ≡ stop_at day r = sym (stop_at_same C onward.0 onward.1 onward.3 sound_cut r (stop_within day sound k r there)) ∙ ap (λ d. stop_at d r) same in
    live_causal day sound (suc k)
    ∙ live_next day sound k (Stop r) there
    ∙ ap (λ K. live_step C K (Stop r)) (sym (live_causal day sound k))
    ∙ stop_times C sound_cut (stop_at C r) (stop_low C sound_cut r) J all settled
    ∙ sym (times_same C onward.0 onward.1 onward.3 sound_cut J legal r)
    ∙ (λ i. times_to (same i) (time i) J)
