-- What is made up to an event is made of what has come in by then alone.
use Rattle.std.proofs.Common.{◌≡◌, ◌∙◌, ℕ, suc, ◌+◌, ◌≤◌, arith, true, List, [], ◌∷◌, ◌++◌, length, take, drop, Some, refl, sym, ap, subst}
use Rattle.std.specs.Prelude.{fold, slice_get}
use Rattle.std.proofs.lemmas.List.{take-append-drop, length-take-le}
use Rattle.std.proofs.Math.Seq.{drop-length, take-length}
use Rattle.batch_records.specs.DayRecord.{Day}
use Rattle.batch_records.specs.declared.day.Message.{Message}
use Rattle.batch_records.specs.Sound.{is_sound, stops_rise}
use Rattle.commit_journal.specs.declared.line.Want.TheVariants as wants
use Rattle.commit_journal.specs.Line.{History}
use Rattle.machine.specs.Legal.{IsLegal}
use Rattle.machine.specs.Orders.Order.{append, quiet, to_end}
use Rattle.settlement_laws.proofs.Base.Growing.{grows-append}
use Rattle.settlement_laws.proofs.Base.SoundParts.{sound_parts}
use Rattle.live_order.specs.LiveOrder.{Event, Arrives, Stop, Over, events_from, events, cut, stop_at, laps_to, live_step, live, live_journal}
use Rattle.live_order.specs.Longer.{longer, GoesOn}
use Rattle.live_order.proofs.Events.Cuts.{IsOwnEvent, AreOwnEvents, CutAt, cut_at, all_within}
use Rattle.live_order.proofs.Events.LiveGrows.{grows-laps_to, grows-step, grows-events, events_end, live_more, take_more_one}
use Rattle.live_order.proofs.Runs.RunsSame.{append_same, quiet_same, laps_to_same}
use Rattle.live_order.proofs.Events.SoundFront.{front, sound_front}

append_nothing : {X : Type 0} (xs : List X) → xs ++ [] ≡ xs
append_nothing [] = refl
append_nothing (x ∷ xs) = ap (λ ys. x ∷ ys) (append_nothing xs)

module _ (day : Day) (ms : List Message) (ss : List ℕ) (g : GoesOn day ms ss) (sound : is_sound day ≡ true) where
  -- nothing follows
  nothing_more : ms ≡ [] → ss ≡ [] → longer day ms ss ≡ day
  nothing_more e f =
      let a : day.messages ++ ms ≡ day.messages = ap (λ xs. day.messages ++ xs) e ∙ append_nothing day.messages in
      let b : day.stops ++ ss ≡ day.stops = ap (λ xs. day.stops ++ xs) f ∙ append_nothing day.stops in
      λ i. record day { messages = a i; stops = b i }

  step_same : (J : History) (e : Event) → IsLegal day J → IsOwnEvent (1 + length day.messages) (length day.stops) ((ms ≡ []) × (ss ≡ [])) e → live_step (longer day ms ss) J e ≡ live_step day J e
  step_same J (Arrives n) legal own =
      ap (quiet (longer day ms ss)) (append_same day ms ss g sound J legal (wants.In n) (omega arith))
      ∙ quiet_same day ms ss g sound (append day J (wants.In n)) ((grows-append day J (wants.In n)).legal legal)
  step_same J (Stop r) legal own =
      ap (quiet (longer day ms ss)) (laps_to_same day ms ss g sound J legal r own)
      ∙ quiet_same day ms ss g sound (laps_to day (stop_at day r) J) ((grows-laps_to day (stop_at day r) J).legal legal)
  step_same J Over legal own = ap (λ d. to_end d J) (nothing_more own.0 own.1)

  steps_same : (es : List Event) (J : History) → IsLegal day J → AreOwnEvents (1 + length day.messages) (length day.stops) ((ms ≡ []) × (ss ≡ [])) es → fold (live_step (longer day ms ss)) J es ≡ fold (live_step day) J es
  steps_same [] J legal own = refl
  steps_same (e ∷ es) J legal own =
      ap (λ K. fold (live_step (longer day ms ss)) K es) (step_same J e legal own.0)
      ∙ steps_same es (live_step day J e) ((grows-step day J e).legal legal) own.1

own_as : (top stops : ℕ) (E F : Type 0) → (E → F) → (es : List Event) → AreOwnEvents top stops E es → AreOwnEvents top stops F es
own_as top stops E F f [] h = tt
own_as top stops E F f (Arrives n ∷ es) h = (h.0, own_as top stops E F f es h.1)
own_as top stops E F f (Stop r ∷ es) h = (h.0, own_as top stops E F f es h.1)
own_as top stops E F f (Over ∷ es) h = (f h.0, own_as top stops E F f es h.1)

-- ---- the front of a day up to an event

module _ (day : Day) (sound : is_sound day ≡ true) (k : ℕ) (c : CutAt k (length day.stops) 0 1 day.messages) where
  stopped_is : length (take c.stopped day.stops) ≡ c.stopped
  stopped_is = length-take-le c.stopped day.stops (let f = c.few in omega (arith, f))

  arrived_is : length (take c.arrived day.messages) ≡ c.arrived
  arrived_is = length-take-le c.arrived day.messages c.within

  stops_end : length (take c.stopped day.stops) ≡ 0 + c.stopped
  stops_end = let e = stopped_is in omega (arith, e)

  front_goes_on : GoesOn (front day c.arrived c.stopped) (drop c.arrived day.messages) (drop c.stopped day.stops)
  front_goes_on = record {
    rise = subst (λ stops. stops_rise 0 stops ≡ true) (sym (take-append-drop c.stopped day.stops)) (sound_parts day sound).stops;
    own = all_within (length (take c.stopped day.stops)) 0 (take c.arrived day.messages) (c.rise (length (take c.stopped day.stops)) stops_end);
    later = c.later (length (take c.stopped day.stops)) stops_end;
  }

  front_sound : is_sound (front day c.arrived c.stopped) ≡ true
  front_sound = sound_front day c.arrived c.stopped sound (c.rise (length (take c.stopped day.stops)) stops_end)

  front_longer : longer (front day c.arrived c.stopped) (drop c.arrived day.messages) (drop c.stopped day.stops) ≡ day
  front_longer = λ i. record day { messages = take-append-drop c.arrived day.messages i; stops = take-append-drop c.stopped day.stops i }

  all_gone : (drop c.arrived day.messages ≡ []) × (length (take c.stopped day.stops) ≡ length day.stops) → (drop c.arrived day.messages ≡ []) × (drop c.stopped day.stops ≡ [])
  all_gone h =
      let e : c.stopped ≡ length day.stops = sym stopped_is ∙ h.1 in
      (h.0, ap (λ s. drop s day.stops) e ∙ drop-length day.stops)

  front_events : take k (events (front day c.arrived c.stopped)) ≡ take k (events day)
  unfolding events
  front_events = c.same (length (take c.stopped day.stops)) stops_end

  own_events : AreOwnEvents (1 + length (take c.arrived day.messages)) (length (take c.stopped day.stops)) ((drop c.arrived day.messages ≡ []) × (drop c.stopped day.stops ≡ [])) (take k (events day))
  unfolding events
  own_events =
      own_as (1 + length (take c.arrived day.messages)) (length (take c.stopped day.stops)) _ _ all_gone (take k (events_from (length day.stops) 0 1 day.messages))
      (c.each (1 + length (take c.arrived day.messages)) (length (take c.stopped day.stops)) (let e = arrived_is in omega (arith, e)) stops_end)

  front_live : live day k [] ≡ live (front day c.arrived c.stopped) k []
  unfolding live
  front_live =
      ap (λ d. fold (live_step d) [] (take k (events day))) (sym front_longer)
      ∙ steps_same (front day c.arrived c.stopped) (drop c.arrived day.messages) (drop c.stopped day.stops) front_goes_on front_sound (take k (events day)) [] tt own_events
      ∙ ap (fold (live_step (front day c.arrived c.stopped)) []) (sym front_events)

  front_is : front day c.arrived c.stopped ≡ cut day k
  unfolding cut events
  front_is = λ i. record day { messages = take (sym c.arrivals i) day.messages; stops = take (sym c.stops i) day.stops }

pub live_causal : (day : Day) → is_sound day ≡ true → (k : ℕ) → live day k [] ≡ live (cut day k) k []
live_causal day sound k =
    let c = cut_at k (length day.stops) 0 1 day.messages (omega arith) (sound_parts day sound).rounds in
    front_live day sound k c ∙ ap (λ d. live d k []) (front_is day sound k c)

pub cut_sound : (day : Day) → is_sound day ≡ true → (k : ℕ) → is_sound (cut day k) ≡ true
cut_sound day sound k =
    let c = cut_at k (length day.stops) 0 1 day.messages (omega arith) (sound_parts day sound).rounds in
    subst (λ d. is_sound d ≡ true) (front_is day sound k c) (front_sound day sound k c)

pub live_alike : (day other : Day) → is_sound day ≡ true → is_sound other ≡ true → (k : ℕ) → cut day k ≡ cut other k → live day k [] ≡ live other k []
live_alike day other sound sound' k e = live_causal day sound k ∙ ap (λ d. live d k []) e ∙ sym (live_causal other sound' k)

-- ---- one event more

own_parts : (top stops : ℕ) (E : Type 0) (es : List Event) (e : Event) → AreOwnEvents top stops E (es ++ (e ∷ [])) → AreOwnEvents top stops E es × IsOwnEvent top stops E e
own_parts top stops E [] e h = (tt, h.0)
own_parts top stops E (f ∷ es) e h = let r = own_parts top stops E es e h.1 in ((h.0, r.0), r.1)

module _ (day : Day) (sound : is_sound day ≡ true) (k : ℕ) (e : Event) (there : slice_get (events day) k ≡ Some e) (c : CutAt (suc k) (length day.stops) 0 1 day.messages) where
  owns : AreOwnEvents (1 + length (take c.arrived day.messages)) (length (take c.stopped day.stops)) ((drop c.arrived day.messages ≡ []) × (drop c.stopped day.stops ≡ [])) (take k (events day))
      × IsOwnEvent (1 + length (take c.arrived day.messages)) (length (take c.stopped day.stops)) ((drop c.arrived day.messages ≡ []) × (drop c.stopped day.stops ≡ [])) e
  owns =
      own_parts (1 + length (take c.arrived day.messages)) (length (take c.stopped day.stops)) _ (take k (events day)) e
      (subst (AreOwnEvents (1 + length (take c.arrived day.messages)) (length (take c.stopped day.stops)) ((drop c.arrived day.messages ≡ []) × (drop c.stopped day.stops ≡ [])))
      (take_more_one (events day) k e there) (own_events day sound (suc k) c))

  before_same : fold (live_step day) [] (take k (events day)) ≡ fold (live_step (front day c.arrived c.stopped)) [] (take k (events day))
  before_same =
      ap (λ d. fold (live_step d) [] (take k (events day))) (sym (front_longer day sound (suc k) c))
      ∙ steps_same (front day c.arrived c.stopped) (drop c.arrived day.messages) (drop c.stopped day.stops) (front_goes_on day sound (suc k) c) (front_sound day sound (suc k) c) (take k (events day)) [] tt owns.0

  step_alike : live_step day (live day k []) e ≡ live_step (front day c.arrived c.stopped) (live day k []) e
  unfolding live
  step_alike =
      subst (λ J. live_step day J e ≡ live_step (front day c.arrived c.stopped) J e) (sym before_same)
      (ap (λ d. live_step d (fold (live_step (front day c.arrived c.stopped)) [] (take k (events day))) e) (sym (front_longer day sound (suc k) c))
      ∙ step_same (front day c.arrived c.stopped) (drop c.arrived day.messages) (drop c.stopped day.stops) (front_goes_on day sound (suc k) c) (front_sound day sound (suc k) c)
      (fold (live_step (front day c.arrived c.stopped)) [] (take k (events day))) e ((grows-events (front day c.arrived c.stopped) (take k (events day)) []).legal tt) owns.1)

  before_legal : IsLegal (front day c.arrived c.stopped) (live day k [])
  unfolding live
  before_legal =
      subst (IsLegal (front day c.arrived c.stopped)) (sym before_same)
      ((grows-events (front day c.arrived c.stopped) (take k (events day)) []).legal tt)

-- the event is the next of the day as far as it has come in then, and what was made before and the event are enough
pub live_next : (day : Day) → is_sound day ≡ true → (k : ℕ) (e : Event) → slice_get (events day) k ≡ Some e →
    live (cut day (suc k)) (suc k) [] ≡ live_step (cut day (suc k)) (live (cut day k) k []) e
live_next day sound k e there =
    let c = cut_at (suc k) (length day.stops) 0 1 day.messages (omega arith) (sound_parts day sound).rounds in
    sym (live_causal day sound (suc k))
    ∙ live_more day k e there
    ∙ step_alike day sound k e there c
    ∙ (λ i. live_step (front_is day sound (suc k) c i) (live_causal day sound k i) e)

-- what was made before it is legal with that day, and a stop is one of its stops
pub live_before : (day : Day) → is_sound day ≡ true → (k : ℕ) (e : Event) → slice_get (events day) k ≡ Some e → IsLegal (cut day (suc k)) (live day k [])
live_before day sound k e there =
    let c = cut_at (suc k) (length day.stops) 0 1 day.messages (omega arith) (sound_parts day sound).rounds in
    subst (λ d. IsLegal d (live day k [])) (front_is day sound (suc k) c) (before_legal day sound k e there c)

pub stop_within : (day : Day) → is_sound day ≡ true → (k r : ℕ) → slice_get (events day) k ≡ Some (Stop r) → r ≤ length (cut day (suc k)).stops
stop_within day sound k r there =
    let c = cut_at (suc k) (length day.stops) 0 1 day.messages (omega arith) (sound_parts day sound).rounds in
    subst (λ (d : Day). r ≤ length d.stops) (front_is day sound (suc k) c) (owns day sound k (Stop r) there c).1

-- ---- what has come in is a front of the day, and after all events it is the day

pub cut_onward : (day : Day) → is_sound day ≡ true → (k : ℕ) → (ms : List Message) × (ss : List ℕ) × (longer (cut day k) ms ss ≡ day) × GoesOn (cut day k) ms ss
cut_onward day sound k =
    let c = cut_at k (length day.stops) 0 1 day.messages (omega arith) (sound_parts day sound).rounds in (
      drop c.arrived day.messages,
      drop c.stopped day.stops,
      subst (λ d. longer d (drop c.arrived day.messages) (drop c.stopped day.stops) ≡ day) (front_is day sound k c) (front_longer day sound k c),
      subst (λ d. GoesOn d (drop c.arrived day.messages) (drop c.stopped day.stops)) (front_is day sound k c) (front_goes_on day sound k c),
    )

pub cut_whole : (day : Day) → is_sound day ≡ true → cut day (length (events day)) ≡ day
cut_whole day sound =
    let k = length (events day) in
    let c = cut_at k (length day.stops) 0 1 day.messages (omega arith) (sound_parts day sound).rounds in
    let before = events_end day in
    let own = subst (AreOwnEvents (1 + length (take c.arrived day.messages)) (length (take c.stopped day.stops)) ((drop c.arrived day.messages ≡ []) × (drop c.stopped day.stops ≡ [])))
    (take-length (events day) ∙ before.1) (own_events day sound k c) in
    let over = (own_parts (1 + length (take c.arrived day.messages)) (length (take c.stopped day.stops)) ((drop c.arrived day.messages ≡ []) × (drop c.stopped day.stops ≡ [])) before.0 Over own).1 in
    sym (front_is day sound k c)
    ∙ sym (nothing_more (front day c.arrived c.stopped) (drop c.arrived day.messages) (drop c.stopped day.stops) (front_goes_on day sound k c) (front_sound day sound k c) over.0 over.1)
    ∙ front_longer day sound k c

pub live_all : (day : Day) → live day (length (events day)) [] ≡ live_journal day
unfolding live live_journal
live_all day = ap (fold (live_step day) []) (take-length (events day))
