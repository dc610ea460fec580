-- After each event what has come in is taken, and the clock stands at the last stop that came in.
use Rattle.std.proofs.Common.{◌≡◌, ◌∙◌, ℕ, zero, suc, ◌+◌, ◌<◌, ◌≤◌, arith, Bool, true, false, ◌&&◌, List, [], ◌∷◌, ◌++◌, length, take, Option, Some, None, is_some, is_none, refl, sym, ap, subst, inl, inr, ⊎_elim, add-one}
use Rattle.std.specs.Prelude.{nat_eq, nat_lt, nat_le, fold, count_by, slice_get, unwrap_or}
use Rattle.std.specs.Option.{option_map_or}
use Rattle.std.proofs.Math.Seq.{take-nil}
use Rattle.std.proofs.lemmas.Bool.{and_from, and_parts, and_left, and_right, or_right, cases_Bool, false≢true, false_from_ne_true, ne_eqb, leb-true, leb-false, le-leb, le-ltb, cases_lt}
use Rattle.std.proofs.lemmas.List.{length-take}
use Rattle.batch_records.specs.DayRecord.{Day}
use Rattle.batch_records.specs.declared.day.Message.{Message}
use Rattle.batch_records.specs.Sound.{is_sound, rounds_rise}
use Rattle.commit_journal.specs.declared.line.Want.{Want}
use Rattle.commit_journal.specs.declared.line.Want.TheVariants as wants
use Rattle.commit_journal.specs.Line.{Line, History}
use Rattle.machine.specs.Words.{same_name}
use Rattle.machine.specs.Records.Messages.{Missing, entries, sort_of, sort_of_body, sender, round_of, is_message}
use Rattle.machine.specs.Telling.History.{is_in_of, taken, clock, is_ended}
use Rattle.machine.specs.Telling.Facts.{round, is_reached, untaken_earlier}
use Rattle.machine.specs.Making.Lines.{may, made, line_of, item_want, is_ready, next_stop}
use Rattle.machine.specs.Legal.{IsLegal}
use Rattle.machine.specs.Orders.Bounds.{left}
use Rattle.machine.specs.OtherLaws.{is_among, is_work}
use Rattle.machine.specs.Orders.Order.{append, with_line, until, take_all, item_step, items_step, scan, quiet, empty_all, time_want, lap, to_end}
use Rattle.settlement_laws.proofs.Base.Appending.{append-made, append-ended}
use Rattle.settlement_laws.proofs.Base.Growing.{Grows, grows-append, append-still, until-stops}
use Rattle.settlement_laws.proofs.Base.Induction.{line_of-some}
use Rattle.settlement_laws.proofs.Base.LinesOf.{placed_more, stays}
use Rattle.settlement_laws.proofs.Base.Places.{same-number}
use Rattle.settlement_laws.proofs.Base.SoundParts.{sound_parts}
use Rattle.settlement_laws.proofs.DayEnd.Progress.{body_message, get_there, none-may, ready_is-there}
use Rattle.settlement_laws.proofs.DayEnd.PlainRuns.{grows-quiet, grows-to_end, to_end-ended, scan-still, scans_stop}
use Rattle.settlement_laws.proofs.DayEnd.NextStopIsTheLeast.{next_stop_is_the_least}
use Rattle.settlement_laws.proofs.Wants.ReadyWants.{none_is_ready}
use Rattle.live_order.specs.LiveOrder.{Event, Arrives, Stop, Over, events_from, events, is_arrival, is_stop, cut, has_reached, stop_at, laps_to, live_step, live}
use Rattle.live_order.specs.Longer.{SpeaksOf}
use Rattle.live_order.proofs.Longer.Ranges.{find_past}
use Rattle.live_order.proofs.Longer.Spoken.{never_taken}
use Rattle.live_order.proofs.Events.Cuts.{cut_at, stop_first, arrival_first, over_first, one_counted, none_counted}
use Rattle.live_order.proofs.Events.LiveGrows.{grows-laps_to, grows-step, grows-live}
use Rattle.live_order.proofs.Runs.Keepers.{IsNoTime, clock_kept, take_all_keeps, quiet_keeps, empty_keeps}
use Rattle.live_order.proofs.Runs.RunsAlike.{scan_idle, until_keeps}
use Rattle.live_order.proofs.Runs.RunsSame.{runs_to_stop, untaken_items}
use Rattle.live_order.proofs.Events.Causal.{live_causal}
use Rattle.live_order.proofs.Runs.StatedStops.{get_among, round_at, stop_low, stops_next}
use Rattle.live_order.proofs.Runs.Speaking.{early, speaks}

-- ---- what is taken stays taken

pub not_none : (o : Option ℕ) → is_some o ≡ true → is_none o ≡ false
not_none None h = cc
not_none (Some x) h = refl

taken_behind : (more J : History) (n : ℕ) → is_some (taken J n) ≡ true → is_some (taken (more ++ J) n) ≡ true
taken_behind [] J n h = h
taken_behind (l ∷ more) J n h = stays (is_in_of n) l (more ++ J) (taken_behind more J n h)

pub taken_stays : (day : Day) (J K : History) (n : ℕ) → Grows day J K → is_some (taken J n) ≡ true → is_some (taken K n) ≡ true
taken_stays day J K n g h = ap (λ L. is_some (taken L n)) g.beginning.1 ∙ taken_behind g.beginning.0 J n h

-- ---- a turn goes no further than a stop above the clock

time_after : (day : Day) (J : History) (w : Want) (t : ℕ) → clock J ≤ t → next_stop day J ≤ t → clock (append day J w) ≤ t
unfolding append clock
time_after day J w t low high = here (line_of day J w) refl
  where
    of_want : (w : Want) → clock (made day J w ∷ J) ≤ t
    of_want (wants.In n) = low
    of_want (wants.Book n k) = low
    of_want (wants.All n) = low
    of_want wants.Time = high
    of_want (wants.Expire n) = low
    of_want (wants.Ask n) = low
    of_want (wants.Cover n) = low
    of_want (wants.Refuse n) = low
    of_want (wants.Sweep a) = low
    of_want wants.End = low

    here : (o : Option Line) → line_of day J w ≡ o → clock (with_line o J) ≤ t
    here None e = low
    here (Some l) e = subst (λ (x : Line). clock (x ∷ J) ≤ t) (line_of-some day J w l e).2 (of_want w)

lap_time : (day : Day) (J : History) (t : ℕ) → is_among day.stops t ≡ true → clock J < t → clock (lap day J) ≤ t
unfolding lap
lap_time day J t stop l =
    let same : (K : History) (w : Want) → IsNoTime w → clock K ≡ clock J → clock (append day K w) ≡ clock J = λ K w h e. clock_kept day K w h ∙ e in
    let a = take_all_keeps day (λ K. clock K ≡ clock J) same J refl in
    let b = quiet_keeps day (λ K. clock K ≡ clock J) same (take_all day J) a in
    let c : clock (empty_all day (quiet day (take_all day J))) ≡ clock J = empty_keeps day (λ K. clock K ≡ clock J) same (quiet day (take_all day J)) b in
    let C = empty_all day (quiet day (take_all day J)) in
    time_after day C (time_want C) t (omega (arith, c, l)) ((next_stop_is_the_least day C).2 t (inr (inl stop)) (omega (arith, c, l)))

stop_met : (day : Day) → is_sound day ≡ true → (t : ℕ) → is_among day.stops t ≡ true → t < 86400 → (J : History) → IsLegal day J → clock J ≤ t → clock (laps_to day t J) ≡ t
unfolding laps_to
stop_met day sound t stop low J legal l =
    let high = until_keeps (λ K. clock K ≤ t) (has_reached t) (lap day) (λ K q e. lap_time day K t stop (leb-false t (clock K) e)) (left day J) J l in
    let there = leb-true t (clock (until (has_reached t) (lap day) (left day J) J)) (until-stops day sound (has_reached t) (lap day) (runs_to_stop day sound t (omega arith)) (left day J) J legal (omega arith)) in
    omega (arith, high, there)

-- ---- how far it has come

-- after r stops and the messages below n, and no scan adds a line
pub record IsUpTo (day : Day) (r n : ℕ) (J : History) : Type 0 where
  pub legal : IsLegal day J
  pub time : clock J ≡ stop_at day r
  pub came : (i : ℕ) → 1 ≤ i → i < n → is_some (taken J i) ≡ true
  pub settled : scan day J ≡ J

-- the end isn't among them
abbrev pub goes_on : List Event → Bool
goes_on [] = true
goes_on (Arrives n ∷ es) = goes_on es
goes_on (Stop r ∷ es) = goes_on es
goes_on (Over ∷ es) = false

-- after r stops and the messages below n, and then these events
pub record KeptUp (day : Day) (r n : ℕ) (es : List Event) (J : History) : Type 0 where
  pub came : (i : ℕ) → 1 ≤ i → i < n + count_by is_arrival es → is_some (taken J i) ≡ true
  pub time : is_ended J ≡ false → clock J ≡ stop_at day (r + count_by is_stop es)
  pub on_time : goes_on es ≡ true → clock J ≡ stop_at day (r + count_by is_stop es)
  pub settled : scan day J ≡ J

after_stop : (day : Day) (r n : ℕ) (es : List Event) (J : History) → KeptUp day (suc r) n es J → KeptUp day r n (Stop (suc r) ∷ es) J
after_stop day r n es J u =
    let a : count_by is_arrival (Stop (suc r) ∷ es) ≡ count_by is_arrival es = none_counted is_arrival (Stop (suc r)) es (Stop (suc r) ∷ es) (count_by is_arrival es) refl refl refl in
    let b : count_by is_stop (Stop (suc r) ∷ es) ≡ suc (count_by is_stop es) = one_counted is_stop (Stop (suc r)) es (Stop (suc r) ∷ es) (count_by is_stop es) refl refl refl in
    let c : suc r + count_by is_stop es ≡ r + count_by is_stop (Stop (suc r) ∷ es) = omega (arith, b) in
    record {
      came = λ i low high. u.came i low (omega (arith, a, high));
      time = λ e. u.time e ∙ ap (stop_at day) c;
      on_time = λ e. u.on_time e ∙ ap (stop_at day) c;
      settled = u.settled;
    }

after_arrival : (day : Day) (r n : ℕ) (es : List Event) (J : History) → KeptUp day r (suc n) es J → KeptUp day r n (Arrives n ∷ es) J
after_arrival day r n es J u =
    let a : count_by is_arrival (Arrives n ∷ es) ≡ suc (count_by is_arrival es) = one_counted is_arrival (Arrives n) es (Arrives n ∷ es) (count_by is_arrival es) refl refl refl in
    let b : count_by is_stop (Arrives n ∷ es) ≡ count_by is_stop es = none_counted is_stop (Arrives n) es (Arrives n ∷ es) (count_by is_stop es) refl refl refl in
    let c : r + count_by is_stop es ≡ r + count_by is_stop (Arrives n ∷ es) = omega (arith, b) in
    record {
      came = λ i low high. u.came i low (omega (arith, a, high));
      time = λ e. u.time e ∙ ap (stop_at day) c;
      on_time = λ e. u.on_time e ∙ ap (stop_at day) c;
      settled = u.settled;
    }

no_event : (day : Day) (r n : ℕ) (J : History) → IsUpTo day r n J → KeptUp day r n [] J
no_event day r n J u = record {
  came = λ i low high. u.came i low (omega arith);
  time = λ e. let c : r ≡ r + 0 = omega arith in u.time ∙ ap (stop_at day) c;
  on_time = λ e. let c : r ≡ r + 0 = omega arith in u.time ∙ ap (stop_at day) c;
  settled = u.settled;
}

-- ---- scans that have nothing to do

-- before the first line
first_scan : (day : Day) → scan day [] ≡ []
unfolding scan
first_scan day = scan_idle (items_step day) [] (length day.messages) (λ n l. untaken_items day [] n (never_taken 0 (suc n) [] tt (omega arith)))

-- after the End line
ended_scan : (day : Day) (J : History) → is_ended J ≡ true → scan day J ≡ J
unfolding scan
ended_scan day J e =
    scan_idle (items_step day) J (length day.messages)
    (λ n l. scan_idle (item_step day (suc n)) J (suc (length (entries day (suc n)))) (λ k m. append-ended day J (item_want day J (suc n) k) e))

module _ (day : Day) (sound : is_sound day ≡ true) where
  -- ---- a stop

  up_stop : (r n : ℕ) (J : History) → suc r ≤ length day.stops → IsUpTo day r n J → IsUpTo day (suc r) n (live_step day J (Stop (suc r)))
  up_stop r n J l u =
      let f = get_there day.stops r (omega arith) in
      let t : stop_at day (suc r) ≡ f.0 = ap (λ o. unwrap_or o 0) f.1 in
      let K = laps_to day (stop_at day (suc r)) J in
      let legal : IsLegal day K = (grows-laps_to day (stop_at day (suc r)) J).legal u.legal in
      let g = grows-step day J (Stop (suc r)) in
      let k = stops_next day sound r l in
      let e = u.time in
      record {
        legal = g.legal u.legal;
        time =
            quiet_keeps day (λ L. clock L ≡ stop_at day (suc r)) (λ L w h c. clock_kept day L w h ∙ c) K
            (stop_met day sound (stop_at day (suc r)) (subst (λ s. is_among day.stops s ≡ true) (sym t) (get_among day.stops r f.0 f.1)) (stop_low day sound (suc r)) J u.legal (omega (arith, k, e)));
        came = λ i low high. taken_stays day J _ i g (u.came i low high);
        settled = scans_stop day K sound legal;
      }

  -- ---- a message

  take_now : (r n : ℕ) (m : Message) (J : History) → r ≤ length day.stops → slice_get day.messages n ≡ Some m → m.round ≡ r → IsUpTo day r (suc n) J → is_some (taken (append day J (wants.In (suc n))) (suc n)) ≡ true
  take_now r n m J l there round_is u = here (taken J (suc n)) refl
    where
      is_there : is_message (sort_of day (suc n)) ≡ true
      is_there = ap (λ (o : Option Message). is_message (option_map_or (λ x. sort_of_body x.body) o Missing)) there ∙ body_message m.body

      reached : is_reached day J (suc n) ≡ true
      reached =
          let a : round_of day (suc n) ≡ m.round = ap (λ (o : Option Message). option_map_or (λ x. x.round) o 0) there in
          let b : r ≤ round day J = round_at day sound r l J u.time in
          le-leb (round_of day (suc n)) (round day J) (omega (arith, a, b, round_is))

      untaken_none : (i : ℕ) → 1 ≤ i → (nat_lt i (suc n) && same_name (sender day i) (sender day (suc n)) && is_none (taken J i)) ≡ false
      untaken_none i low =
          ⊎_elim
          (λ (before : i < suc n). and_right _ _ (not_none (taken J i) (u.came i low before)))
          (λ (behind : suc n ≤ i). and_left _ _ (and_left _ _ (le-ltb i (suc n) behind)))
          (cases_lt i (suc n))

      earlier : is_none (untaken_earlier day J (suc n)) ≡ true
      earlier = ap is_none (find_past (λ i. nat_lt i (suc n) && same_name (sender day i) (sender day (suc n)) && is_none (taken J i)) 1 day.messages (λ i low high. untaken_none i low))

      here : (o : Option ℕ) → taken J (suc n) ≡ o → is_some (taken (append day J (wants.In (suc n))) (suc n)) ≡ true
      here (Some p) e = taken_stays day J (append day J (wants.In (suc n))) (suc n) (grows-append day J (wants.In (suc n))) (ap is_some e)
      here None e =
          let may_now : may day J (wants.In (suc n)) ≡ true = and_from _ _ (and_from _ _ (and_from _ _ is_there (ap is_none e)) reached) earlier in
          let time = u.time in
          let low = stop_low day sound r in
          let not_over : is_ended J ≡ false = early day J u.legal (omega (arith, time, low)) in
          ap (λ K. is_some (taken K (suc n))) (append-made day J (wants.In (suc n)) not_over may_now)
          ∙ placed_more (is_in_of (suc n)) (made day J (wants.In (suc n))) J
          ∙ or_right (is_some (taken J (suc n))) _ (same-number (suc n))

  up_arrival : (r n : ℕ) (m : Message) (J : History) → r ≤ length day.stops → slice_get day.messages n ≡ Some m → m.round ≡ r → IsUpTo day r (suc n) J → IsUpTo day r (suc (suc n)) (live_step day J (Arrives (suc n)))
  up_arrival r n m J l there round_is u =
      let A = append day J (wants.In (suc n)) in
      let a = grows-append day J (wants.In (suc n)) in
      let b = grows-quiet day A in
      let now = take_now r n m J l there round_is u in
      record {
        legal = b.legal (a.legal u.legal);
        time =
            quiet_keeps day (λ K. clock K ≡ stop_at day r) (λ K w h e. clock_kept day K w h ∙ e) A (clock_kept day J (wants.In (suc n)) tt ∙ u.time);
        came = λ i low high.
            taken_stays day A (quiet day A) i b
            (⊎_elim
            (λ (before : i < suc n). taken_stays day J A i a (u.came i low before))
            (λ (behind : suc n ≤ i). let e : i ≡ suc n = omega arith in subst (λ j. is_some (taken A j) ≡ true) (sym e) now)
            (cases_lt i (suc n)));
        settled = scans_stop day A sound (a.legal u.legal);
      }

  -- ---- over the events

  end_kept : (r n : ℕ) (J : History) → IsUpTo day r n J → KeptUp day r n (Over ∷ []) (to_end day J)
  end_kept r n J u =
      let ended : is_ended (to_end day J) ≡ true = to_end-ended day sound J u.legal in
      record {
        came = λ i low high. taken_stays day J (to_end day J) i (grows-to_end day J) (u.came i low (omega (arith, high)));
        time = λ e. absurd (cc);
        on_time = λ e. cc e;
        settled = ended_scan day (to_end day J) ended;
      }

  kept_up : (k r n : ℕ) (ms : List Message) (J : History) → r ≤ length day.stops → rounds_rise (length day.stops) r ms ≡ true → ((j : ℕ) → slice_get ms j ≡ slice_get day.messages (n + j)) → IsUpTo day r (suc n) J →
      KeptUp day r (suc n) (take k (events_from (length day.stops) r (suc n) ms)) (fold (live_step day) J (take k (events_from (length day.stops) r (suc n) ms)))
  kept_up zero r n ms J l h rest u = no_event day r (suc n) J u
  kept_up (suc k) r n [] J l h rest u =
      ⊎_elim
      (λ (below : r < length day.stops).
      subst (λ es. KeptUp day r (suc n) es (fold (live_step day) J es))
      (sym (ap (take (suc k)) (stop_first (length day.stops) r (suc n) [] below tt) ∙ ap (λ q. Stop q ∷ take k (events_from (length day.stops) q (suc n) [])) (add-one r)))
      (after_stop day r (suc n) _ _ (kept_up k (suc r) n [] (live_step day J (Stop (suc r))) below refl rest (up_stop r (suc n) J below u))))
      (λ (there : length day.stops ≤ r).
      subst (λ es. KeptUp day r (suc n) es (fold (live_step day) J es))
      (sym (ap (take (suc k)) (over_first (length day.stops) r (suc n) there) ∙ ap (λ es. Over ∷ es) (take-nil k)))
      (end_kept r (suc n) J u))
      (cases_lt r (length day.stops))
  kept_up (suc k) r n (m ∷ ms) J l h rest u =
      let p = and_parts _ (rounds_rise (length day.stops) m.round ms) h in
      let a = and_parts (nat_le r m.round) (nat_le m.round (length day.stops)) p.0 in
      let low : r ≤ m.round = leb-true _ _ a.0 in
      let high : m.round ≤ length day.stops = leb-true _ _ a.1 in
      ⊎_elim
      (λ (behind : r < m.round).
      let below : r < length day.stops = omega (arith, high) in
      subst (λ es. KeptUp day r (suc n) es (fold (live_step day) J es))
      (sym (ap (take (suc k)) (stop_first (length day.stops) r (suc n) (m ∷ ms) below behind) ∙ ap (λ q. Stop q ∷ take k (events_from (length day.stops) q (suc n) (m ∷ ms))) (add-one r)))
      (after_stop day r (suc n) _ _
      (kept_up k (suc r) n (m ∷ ms) (live_step day J (Stop (suc r))) below (and_from _ _ (and_from _ _ (le-leb (suc r) m.round behind) a.1) p.1) rest (up_stop r (suc n) J below u))))
      (λ (there : m.round ≤ r).
      let here : m.round ≡ r = omega (arith, low) in
      let at : slice_get day.messages n ≡ Some m = let e : n + 0 ≡ n = omega arith in sym (rest 0 ∙ ap (slice_get day.messages) e) in
      subst (λ es. KeptUp day r (suc n) es (fold (live_step day) J es))
      (sym (ap (take (suc k)) (arrival_first (length day.stops) r (suc n) m ms here) ∙ ap (λ q. Arrives (suc n) ∷ take k (events_from (length day.stops) r q ms)) (add-one (suc n))))
      (after_arrival day r (suc n) _ _
      (kept_up k r (suc n) ms (live_step day J (Arrives (suc n))) l (subst (λ q. rounds_rise (length day.stops) q ms ≡ true) here p.1)
      (λ j. let e : n + suc j ≡ suc n + j = omega arith in rest (suc j) ∙ ap (slice_get day.messages) e)
      (up_arrival r n m J l at here u))))
      (cases_lt r m.round)

  at_first : IsUpTo day 0 1 []
  unfolding clock
  at_first = record { legal = tt; time = refl; came = λ i low high. absurd (omega arith); settled = first_scan day }

  kept_live : (k : ℕ) → KeptUp day 0 1 (take k (events day)) (live day k [])
  unfolding live events
  kept_live k = kept_up k 0 0 day.messages [] (omega arith) (sound_parts day sound).rounds (λ j. let e : j ≡ 0 + j = omega arith in ap (slice_get day.messages) e) at_first

-- each message that has come in is taken
pub live_takes : (day : Day) → is_sound day ≡ true → (k n : ℕ) → 1 ≤ n → n ≤ length (cut day k).messages → is_some (taken (live day k []) n) ≡ true
unfolding cut
live_takes day sound k n low high =
    let l = length-take (count_by is_arrival (take k (events day))) day.messages in
    (kept_live day sound k).came n low (omega (arith, l, high))

-- until the day is over the clock stands at the last stop that has come in, or at 0
pub live_stops : (day : Day) → is_sound day ≡ true → (k : ℕ) → is_ended (live day k []) ≡ false → clock (live day k []) ≡ stop_at day (length (cut day k).stops)
unfolding cut events
live_stops day sound k e =
    let c = cut_at k (length day.stops) 0 1 day.messages (omega arith) (sound_parts day sound).rounds in
    let f = c.few in
    let s : count_by is_stop (take k (events day)) ≡ c.stopped = c.stops in
    let l = length-take (count_by is_stop (take k (events day))) day.stops in
    let same : 0 + count_by is_stop (take k (events day)) ≡ length (take (count_by is_stop (take k (events day))) day.stops) = omega (arith, f, s, l) in
    (kept_live day sound k).time e ∙ ap (stop_at day) same

-- before the end of the day is among the events it does, and the day isn't ended
pub live_on_time : (day : Day) → is_sound day ≡ true → (k : ℕ) → goes_on (take k (events day)) ≡ true → (clock (live day k []) ≡ stop_at day (count_by is_stop (take k (events day)))) × (is_ended (live day k []) ≡ false)
live_on_time day sound k e =
    let none : 0 + count_by is_stop (take k (events day)) ≡ count_by is_stop (take k (events day)) = omega arith in
    let time = (kept_live day sound k).on_time e ∙ ap (stop_at day) none in
    let low = stop_low day sound (count_by is_stop (take k (events day))) in
    (time, early day (live day k []) ((grows-live day k []).legal tt) (omega (arith, time, low)))

-- and it speaks of the messages that have come in alone
pub live_speaks : (day : Day) → is_sound day ≡ true → (k : ℕ) → SpeaksOf (length (cut day k).messages) (live day k [])
live_speaks day sound k =
    subst (SpeaksOf (length (cut day k).messages)) (sym (live_causal day sound k)) (speaks (cut day k) (live (cut day k) k []) ((grows-live (cut day k) k []).legal tt))

-- no scan adds a line
pub live_settles : (day : Day) → is_sound day ≡ true → (k : ℕ) → scan day (live day k []) ≡ live day k []
live_settles day sound k = (kept_live day sound k).settled

-- so nothing is ready
pub live_is_idle : (day : Day) → is_sound day ≡ true → (k : ℕ) (w : Want) → is_work w ≡ true → line_of day (live day k []) w ≡ None
live_is_idle day sound k w work =
    ⊎_elim
    (λ (e : is_ended L ≡ true). append-still day L w (append-ended day L w e))
    (λ (e : is_ended L ≡ false). none_is_ready day L (none_now e) w work)
    (cases_Bool (is_ended L))
  where
    L : History
    L = live day k []

    none_now : is_ended L ≡ false → is_ready day L ≡ false
    none_now e =
        let c = live_stops day sound k e in
        let low = stop_low day sound (length (cut day k).stops) in
        let late : nat_eq (clock L) 86400 ≡ false = ne_eqb (clock L) 86400 (λ m. omega (arith, c, low, m)) in
        false_from_ne_true _
        (ready_is-there day L ⊥
        (λ i n l m h. false≢true (sym (none-may day L (item_want day L (suc i) n) e (scan-still day L (ap length (live_settles day sound k)) i n l m)) ∙ h))
        (λ a l h. false≢true (sym (and_left _ _ (and_right _ _ late)) ∙ h)))
