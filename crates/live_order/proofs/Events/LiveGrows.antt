-- Each event adds lines by the rules, and the last one ends the day.
use Rattle.std.proofs.Common.{◌≡◌, ◌∙◌, ℕ, zero, suc, ◌+◌, arith, true, List, [], ◌∷◌, ◌++◌, Option, Some, None, refl, sym, ap, subst}
use Rattle.std.specs.Prelude.{fold, take, length, slice_get}
use Rattle.std.proofs.lemmas.List.{append_assoc}
use Rattle.std.proofs.lemmas.List.Sums.{fold-append}
use Rattle.batch_records.specs.DayRecord.{Day}
use Rattle.batch_records.specs.declared.day.Message.{Message}
use Rattle.batch_records.specs.Sound.{is_sound}
use Rattle.commit_journal.specs.declared.line.Want.TheVariants as wants
use Rattle.commit_journal.specs.Line.{History}
use Rattle.commit_journal.specs.Histories.{Begins}
use Rattle.machine.specs.Orders.Bounds.{left}
use Rattle.machine.specs.Legal.{IsLegal, is_complete}
use Rattle.machine.specs.Orders.Order.{append, lap, to_end}
use Rattle.settlement_laws.proofs.Base.Growing.{Grows, grows-none, grows-then, grows-append, grows-until}
use Rattle.settlement_laws.proofs.DayEnd.PlainRuns.{grows-quiet, grows-lap, grows-to_end, day_ends}
use Rattle.live_order.specs.LiveOrder.{Event, Arrives, Stop, Over, stops_between, events_from, events, has_reached, stop_at, laps_to, live_step, live, live_journal}

pub grows-laps_to : (day : Day) (time : ℕ) (J : History) → Grows day J (laps_to day time J)
unfolding laps_to
grows-laps_to day time J = grows-until day (has_reached time) (lap day) (grows-lap day) (left day J) J

pub grows-step : (day : Day) (J : History) (e : Event) → Grows day J (live_step day J e)
grows-step day J (Arrives n) = grows-then day J (append day J (wants.In n)) _ (grows-append day J (wants.In n)) (grows-quiet day (append day J (wants.In n)))
grows-step day J (Stop r) =
    let K = laps_to day (stop_at day r) J in
    grows-then day J K _ (grows-laps_to day (stop_at day r) J) (grows-quiet day K)
grows-step day J Over = grows-to_end day J

pub grows-events : (day : Day) (es : List Event) (J : History) → Grows day J (fold (live_step day) J es)
grows-events day [] J = grows-none day J
grows-events day (e ∷ es) J = grows-then day J (live_step day J e) _ (grows-step day J e) (grows-events day es (live_step day J e))

pub grows-live : (day : Day) (k : ℕ) (J : History) → Grows day J (live day k J)
unfolding live
grows-live day k J = grows-events day (take k (events day)) J

-- ---- what was made stays

pub take_more_one : {X : Type 0} (xs : List X) (k : ℕ) (x : X) → slice_get xs k ≡ Some x → take (suc k) xs ≡ take k xs ++ (x ∷ [])
take_more_one [] k x e = cc
take_more_one (y ∷ ys) zero x e = let same : y ≡ x = cc in ap (λ z. z ∷ []) same
take_more_one (y ∷ ys) (suc k) x e = ap (λ zs. y ∷ zs) (take_more_one ys k x e)

take_none_more : {X : Type 0} (xs : List X) (k : ℕ) → slice_get xs k ≡ None → take (suc k) xs ≡ take k xs
take_none_more [] zero e = refl
take_none_more [] (suc k) e = refl
take_none_more (y ∷ ys) zero e = cc
take_none_more (y ∷ ys) (suc k) e = ap (λ zs. y ∷ zs) (take_none_more ys k e)

pub live_more : (day : Day) (k : ℕ) (e : Event) → slice_get (events day) k ≡ Some e → live day (suc k) [] ≡ live_step day (live day k []) e
unfolding live
live_more day k e h = ap (fold (live_step day) []) (take_more_one (events day) k e h) ∙ fold-append (live_step day) [] (take k (events day)) (e ∷ [])

live_no_more : (day : Day) (k : ℕ) → slice_get (events day) k ≡ None → live day (suc k) [] ≡ live day k []
unfolding live
live_no_more day k h = ap (fold (live_step day) []) (take_none_more (events day) k h)

grows-one : (day : Day) (k : ℕ) → Grows day (live day k []) (live day (suc k) [])
grows-one day k = here (slice_get (events day) k) refl
  where
    here : (o : Option Event) → slice_get (events day) k ≡ o → Grows day (live day k []) (live day (suc k) [])
    here None h = subst (Grows day (live day k [])) (sym (live_no_more day k h)) (grows-none day (live day k []))
    here (Some e) h = subst (Grows day (live day k [])) (sym (live_more day k e h)) (grows-step day (live day k []) e)

grows-more : (day : Day) (k more : ℕ) → Grows day (live day k []) (live day (k + more) [])
grows-more day k zero = let e : k ≡ k + 0 = omega arith in subst (λ i. Grows day (live day k []) (live day i [])) e (grows-none day (live day k []))
grows-more day k (suc more) =
    let e : suc (k + more) ≡ k + suc more = omega arith in
    subst (λ i. Grows day (live day k []) (live day i [])) e
    (grows-then day (live day k []) (live day (k + more) []) (live day (suc (k + more)) []) (grows-more day k more) (grows-one day (k + more)))

pub live_stays : (day : Day) (k more : ℕ) → Begins (live day k []) (live day (k + more) [])
live_stays day k more = (grows-more day k more).beginning

-- the events of a day end with its end
ends_over : (last r n : ℕ) (ms : List Message) → (es : List Event) × (events_from last r n ms ≡ es ++ (Over ∷ []))
ends_over last r n [] = (stops_between r last, refl)
ends_over last r n (m ∷ ms) =
    let later = ends_over last m.round (n + 1) ms in (
      stops_between r m.round ++ (Arrives n ∷ later.0),
      ap (λ es. stops_between r m.round ++ (Arrives n ∷ es)) later.1 ∙ sym (append_assoc (stops_between r m.round) (Arrives n ∷ later.0) (Over ∷ [])),
    )

pub events_end : (day : Day) → (es : List Event) × (events day ≡ es ++ (Over ∷ []))
unfolding events
events_end day = ends_over (length day.stops) 0 1 day.messages

pub live_ends : (day : Day) → is_sound day ≡ true → IsLegal day (live_journal day) × (is_complete (live_journal day) ≡ true)
unfolding live_journal
live_ends day sound =
    let before = events_end day in
    let J : History = fold (live_step day) [] before.0 in
    let legal : IsLegal day J = (grows-events day before.0 []).legal tt in
    let same : fold (live_step day) [] (events day) ≡ to_end day J = ap (fold (live_step day) []) before.1 ∙ fold-append (live_step day) [] before.0 (Over ∷ []) in
    let done = day_ends day J sound legal in
    (subst (IsLegal day) (sym same) done.0, ap is_complete same ∙ done.2)
