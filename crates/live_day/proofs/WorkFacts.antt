-- What holds of a day at work where a record comes.
use Rattle.std.proofs.Common.{◌≡◌, ◌∙◌, ◌+◌, ◌≤◌, ◌++◌, ℕ, suc, Bool, true, false, List, [], ◌∷◌, append_assoc, append-nil, length, refl, sym, ap, subst, arith, zero-add, add-zero}
use Rattle.std.specs.Prelude.{Err, IfOk, Ok, OnOk, Result, Some, map, not}
use Rattle.std.proofs.lemmas.List.{append_cancel_left, length-map, map-append}
use Rattle.batch_records.specs.DayRecord.{Day}
use Rattle.batch_records.specs.Records.{Fields}
use Rattle.batch_records.specs.Sound.{is_sound}
use Rattle.batch_records.specs.declared.day.Message.{Message}
use Rattle.live_records.specs.Ears.{Fits, GrowsBy, IsHeard, IsTold, calls_said, ends_run}
use Rattle.live_records.specs.Heard.{Call, Takes, Stops, Refuses, Breaks, Heard, calls_of_batch, day_of, hear, heard, taken}
use Rattle.live_records.specs.OpenRecord.{with_open}
use Rattle.live_records.specs.Rounds.{rounds_called, stops_called}
use Rattle.live_records.specs.declared.ear.Ear.{Ear}
use Rattle.live_records.specs.declared.ear.Outcome.{Outcome}
use Rattle.live_records.specs.declared.ear.Outcome.TheVariants as outcomes
use Rattle.live_records.proofs.AcceptedFacts.{accepted_sound, begun_started}
use Rattle.live_records.proofs.Continuing.{grows_hear, heard_next, records_continue}
use Rattle.rule_book.specs.declared.batch_tables.BatchTables.{BatchTables}
use Rattle.rule_book.specs.declared.found.Found.{Found}
use Rattle.live_day.specs.Events.{AreOfDay, events_in}
use Rattle.live_day.specs.Hearing.{HasRoomLeft}
use Rattle.live_day.specs.LiveFloors.{came_in}
use Rattle.live_day.specs.Told.{told_calls, told_event}
use Rattle.live_day.specs.Working.{HasTold, IsWorking, LacksMessage, LacksSaid}
use Rattle.live_day.specs.declared.work.Work.{Work}
use Rattle.live_day.specs.declared.live_floor.LiveFloor.{LiveFloor}
use Rattle.live_day.proofs.DayGrows.{Further, taken_further}
use Rattle.live_day.proofs.EventFacts.{of_records}
use Rattle.live_day.proofs.FrontFacts.{calls_same, events_same}
use Rattle.live_day.proofs.HeardFacts.{sound_heard}
use Rattle.live_day.proofs.RoomSame.{calls_in_room}
use Rattle.live_day.proofs.SettingGrows.{entries_fit, message_fits}
use Rattle.live_day.proofs.ToldFronts.{events_append, quiet_all}

-- ---- how many events have come

pub events_came : (h : Heard) → AreOfDay h → events_in h.calls ≡ came_in (day_of h)
events_came h of =
    let rounds : length (rounds_called 0 h.calls) ≡ length (day_of h).messages = ap length of.rounds ∙ length-map (day_of h).messages (λ (m : Message). m.round) in
    let all = both 0 h.calls in
    let stops = of.stops in
    omega (arith, rounds, all, stops)
  where
    both : (r : ℕ) (calls : List Call) → events_in calls ≡ length (rounds_called r calls) + stops_called calls
    both r [] = refl
    both r (Takes ∷ calls) = let more = both r calls in omega (arith, more)
    both r (Stops ∷ calls) = let more = both (r + 1) calls in omega (arith, more)
    both r (Refuses n c ∷ calls) = both r calls
    both r (Breaks n c ∷ calls) = both r calls

-- ---- the round of a message that is taken

firsts_same : (a b : ℕ) (xs ys : List ℕ) → a ∷ xs ≡ b ∷ ys → a ≡ b
firsts_same a b xs ys e = cc e

rounds_on : (r : ℕ) (calls more : List Call) → rounds_called r (calls ++ Takes ∷ more) ≡ rounds_called r calls ++ (r + stops_called calls) ∷ rounds_called (r + stops_called calls) more
rounds_on r [] more = let same : r ≡ r + 0 = sym (add-zero r) in ap (λ (n : ℕ). n ∷ rounds_called n more) same
rounds_on r (Takes ∷ calls) more = ap (λ (xs : List ℕ). r ∷ xs) (rounds_on r calls more)
rounds_on r (Stops ∷ calls) more =
    let same : r + 1 + stops_called calls ≡ r + suc (stops_called calls) = omega arith in
    rounds_on (r + 1) calls more ∙ ap (λ (n : ℕ). rounds_called (r + 1) calls ++ n ∷ rounds_called n more) same
rounds_on r (Refuses n c ∷ calls) more = rounds_on r calls more
rounds_on r (Breaks n c ∷ calls) more = rounds_on r calls more

-- it stands after as many stops as the day had
pub round_is : (h now : Heard) (m : Message) (ms : List Message) (more : List Call) → AreOfDay h → AreOfDay now → now.calls ≡ h.calls ++ Takes ∷ more → (day_of now).messages ≡ (day_of h).messages ++ m ∷ ms
    → m.round ≡ length (day_of h).stops
round_is h now m ms more of of_now calls messages =
    let before = map (λ (x : Message). x.round) (day_of h).messages in
    let now_rounds : before ++ m.round ∷ map (λ (x : Message). x.round) ms ≡ before ++ stops_called h.calls ∷ rounds_called (stops_called h.calls) more =
    sym (map-append (λ (x : Message). x.round) (day_of h).messages (m ∷ ms))
    ∙ sym (ap (map (λ (x : Message). x.round)) messages)
    ∙ sym of_now.rounds
    ∙ ap (rounds_called 0) calls
    ∙ rounds_on 0 h.calls more
    ∙ (λ i. of.rounds i ++ zero-add (stops_called h.calls) i ∷ rounds_called (zero-add (stops_called h.calls) i) more) in
    firsts_same m.round (stops_called h.calls) (map (λ (x : Message). x.round) ms) (rounds_called (stops_called h.calls) more)
    (append_cancel_left before (m.round ∷ map (λ (x : Message). x.round) ms) (stops_called h.calls ∷ rounds_called (stops_called h.calls) more) now_rounds)
    ∙ of.stops

-- with it the calls are those of the day again
stops_then : (calls : List Call) → stops_called (calls ++ Takes ∷ []) ≡ stops_called calls
stops_then [] = refl
stops_then (Takes ∷ calls) = stops_then calls
stops_then (Stops ∷ calls) = ap suc (stops_then calls)
stops_then (Refuses n c ∷ calls) = stops_then calls
stops_then (Breaks n c ∷ calls) = stops_then calls

pub of_day_then : (h now : Heard) (m : Message) → AreOfDay h → now.calls ≡ h.calls ++ Takes ∷ [] → (day_of now).messages ≡ (day_of h).messages ++ m ∷ [] → (day_of now).stops ≡ (day_of h).stops → m.round ≡ length (day_of h).stops → AreOfDay now
of_day_then h now m of calls messages stops round = record {
  rounds = ap (rounds_called 0) calls ∙ rounds_on 0 h.calls []
      ∙ (λ i. of.rounds i ++ (zero-add (stops_called h.calls) ∙ of.stops ∙ sym round) i ∷ [])
      ∙ sym (map-append (λ (x : Message). x.round) (day_of h).messages (m ∷ []))
      ∙ ap (map (λ (x : Message). x.round)) (sym messages);
  stops = ap stops_called calls ∙ stops_then h.calls ∙ of.stops ∙ ap length (sym stops);
}

-- ---- the day in its room

-- what the room of a day doesn't tell
room_came : (h : Heard) (ear : Ear) (day : Day) → IsHeard h ear day → came_in day ≡ came_in (day_of h)
room_came h ear day i = ap came_in i.accepted

room_told : (h : Heard) (ear : Ear) (day : Day) → IsHeard h ear day → (k : ℕ) (calls : List Call) → told_calls day k calls ≡ told_calls (day_of h) k calls
room_told h ear day i k calls = ap (λ (d : Day). told_calls d k calls) i.accepted ∙ calls_in_room day.room (day_of h) k calls

room_sound : (h : Heard) (ear : Ear) (day : Day) → IsHeard h ear day → is_sound (day_of h) ≡ true
room_sound h ear day i = sym (ap is_sound i.accepted) ∙ sound_heard h ear day i

-- ---- a message that comes to the day

came_messages : (h now : Heard) (earlier later : Ear) (old new : Day) (m : Message) → IsHeard h earlier old → IsHeard now later new → new ≡ with_open (Some m) old → (day_of now).messages ≡ (day_of h).messages ++ m ∷ []
came_messages h now earlier later old new m before after grows =
    sym (ap (λ (d : Day). d.messages) after.accepted) ∙ ap (λ (d : Day). d.messages) grows ∙ ap (λ (d : Day). d.messages ++ m ∷ []) before.accepted

came_stops : (h now : Heard) (earlier later : Ear) (old new : Day) (m : Message) → IsHeard h earlier old → IsHeard now later new → new ≡ with_open (Some m) old → (day_of now).stops ≡ (day_of h).stops
came_stops h now earlier later old new m before after grows =
    sym (ap (λ (d : Day). d.stops) after.accepted) ∙ ap (λ (d : Day). d.stops) grows ∙ ap (λ (d : Day). d.stops) before.accepted

-- the floor knows nothing of it yet
lacks_message : (h : Heard) (earlier later : Ear) (old new : Day) (f : LiveFloor) (m : Message) → IsHeard h earlier old → Fits later new → new ≡ with_open (Some m) old → m.round ≡ length (day_of h).stops → HasTold old f → LacksMessage new f
lacks_message h earlier later old new f m before fits grows round told = record {
  comes = record {
    before = old;
    last = m;
    longer = grows;
    sound = sound_heard h earlier old before;
    round = round ∙ sym (ap (λ (d : Day). length d.stops) before.accepted);
    low = message_fits later old new m grows fits;
    few = entries_fit later old new m grows fits;
    made = told.made;
  };
  stands = told.stands;
  room = told.room;
}

-- by what is said of a record
pub lacks_said : (h : Heard) (r : Fields) (said : Outcome) (earlier later : Ear) (old new : Day) (f : LiveFloor) → IsHeard h earlier old → IsTold h r said later new → GrowsBy said old new → Fits later new → AreOfDay h → AreOfDay (hear h r)
    → HasTold old f → LacksSaid said new f
lacks_said h r outcomes.Nothing earlier later old new f before told grows fits of of_next has = subst (λ (d : Day). HasTold d f) (sym grows) has
lacks_said h r outcomes.Takes earlier later old new f before told grows fits of of_next has =
    lacks_message h earlier later old new f grows.0 before fits grows.1
    (round_is h (hear h r) grows.0 [] [] of of_next told.calls (came_messages h (hear h r) earlier later old new grows.0 before (told.heard refl) grows.1)) has
lacks_said h r outcomes.Stops earlier later old new f before told grows fits of of_next has = (
  grows.0,
  record {
    comes = record { before = old; longer = grows.1; sound = sound_heard h earlier old before; made = has.made };
    stands = has.stands;
    room = has.room;
  },
)
lacks_said h r (outcomes.Refuses c) earlier later old new f before told grows fits of of_next has = subst (λ (d : Day). HasTold d f) (sym grows) has
lacks_said h r (outcomes.Breaks c) earlier later old new f before told grows fits of of_next has = subst (λ (d : Day). HasTold d f) (sym grows) has

-- ---- what is told of it

-- so many events have come with it
said_events : (h : Heard) (r : Fields) (said : Outcome) (number : ℕ) (later : Ear) (new : Day) → number ≡ h.count + 1 → IsTold h r said later new → AreOfDay (hear h r) → ends_run said ≡ false
    → events_in h.calls + events_in (calls_said number said) ≡ came_in new
said_events h r said number later new is told of_next goes =
    sym (events_append h.calls (calls_said number said))
    ∙ ap (λ (n : ℕ). events_in (h.calls ++ calls_said n said)) is
    ∙ sym (ap events_in told.calls)
    ∙ events_came (hear h r) of_next
    ∙ sym (room_came (hear h r) later new (told.heard goes))

pub said_count : (h : Heard) (r : Fields) (said : Outcome) (number : ℕ) (earlier later : Ear) (old new : Day) → number ≡ h.count + 1 → IsHeard h earlier old → IsTold h r said later new → GrowsBy said old new → AreOfDay h → AreOfDay (hear h r)
    → events_in h.calls + events_in (calls_said number said) ≡ came_in new
said_count h r outcomes.Nothing number earlier later old new is before told grows of of_next = said_events h r outcomes.Nothing number later new is told of_next refl
said_count h r outcomes.Takes number earlier later old new is before told grows of of_next = said_events h r outcomes.Takes number later new is told of_next refl
said_count h r outcomes.Stops number earlier later old new is before told grows of of_next = said_events h r outcomes.Stops number later new is told of_next refl
said_count h r (outcomes.Refuses c) number earlier later old new is before told grows of of_next = said_events h r (outcomes.Refuses c) number later new is told of_next refl
said_count h r (outcomes.Breaks c) number earlier later old new is before told grows of of_next =
    add-zero (events_in h.calls) ∙ events_came h of ∙ sym (room_came h earlier old before) ∙ ap came_in (sym grows)

pub said_told : (h : Heard) (r : Fields) (said : Outcome) (number k : ℕ) (later : Ear) (new : Day) → IsTold h r said later new → told_calls new k (calls_said number said) ≡ told_calls (day_of (hear h r)) k (calls_said number said)
unfolding told_calls
said_told h r outcomes.Nothing number k later new told = refl
said_told h r outcomes.Takes number k later new told = room_told (hear h r) later new (told.heard refl) k (Takes ∷ [])
said_told h r outcomes.Stops number k later new told = room_told (hear h r) later new (told.heard refl) k (Stops ∷ [])
said_told h r (outcomes.Refuses c) number k later new told = refl
said_told h r (outcomes.Breaks c) number k later new told = refl

pub said_goes : {E : Type 0} (said : Outcome) (result : Result Bool E) → IfOk result (λ goes. goes ≡ not (ends_run said)) → result ≡ Ok true → ends_run said ≡ false
said_goes said (Ok true) ends e = by (ends_run said) ends
  where
    by : (x : Bool) → true ≡ not x → x ≡ false
    by true n = cc n
    by false n = refl
said_goes said (Ok false) ends e = cc e
said_goes said (Err fault) ends e = cc e

pub said_breaks : {E : Type 0} (said : Outcome) (result : Result Bool E) → IfOk result (λ goes. goes ≡ not (ends_run said)) → result ≡ Ok false → ends_run said ≡ true
said_breaks said (Ok false) ends e = by (ends_run said) ends
  where
    by : (x : Bool) → false ≡ not x → x ≡ true
    by true n = refl
    by false n = cc n
said_breaks said (Ok true) ends e = cc e
said_breaks said (Err fault) ends e = cc e

pub at_ok : {T E : Type 0} (value : T) (P : Type 0) (result : Result T E) → OnOk result P → result ≡ Ok value → P
at_ok value P (Ok x) p e = p
at_ok value P (Err fault) p e = cc e

-- ---- the open batch ends in front of a record

one_called : (day : Day) (k : ℕ) → told_event day k ≡ told_calls day k (Takes ∷ [])
unfolding told_calls
one_called day k = sym (append-nil (told_event day k))

module _ (records : List Fields) (r : Fields) (earlier later : Ear) (old new : Day) (before : IsHeard (heard records) earlier old)
    (ended : IsHeard (taken (heard records)) later new × ((taken (heard records)).calls ≡ (heard records).calls ++ Takes ∷ []) × (hear (heard records) r ≡ hear (taken (heard records)) r))
    (grows : GrowsBy outcomes.Takes old new) where
  batch_there : (heard records).begun ≡ true
  batch_there = by (heard records).begun refl
    where
      by : (x : Bool) → (heard records).begun ≡ x → x ≡ true
      by true e = refl
      by false e =
          let none = (quiet_all records e).batch in
          let some : calls_of_batch (heard records).batch ≡ Takes ∷ [] = append_cancel_left (heard records).calls (calls_of_batch (heard records).batch) (Takes ∷ []) ended.1 in
          let clash : [] ≡ Takes ∷ [] = sym (ap calls_of_batch none) ∙ some in
          cc clash

  pub batch_next : hear (taken (heard records)) r ≡ heard (records ++ r ∷ [])
  batch_next = sym ended.2 ∙ sym (heard_next records r)

  batch_further : Further (day_of (taken (heard records))) (day_of (heard (records ++ r ∷ [])))
  batch_further = subst (λ (g : Heard). Further (day_of (taken (heard records))) (day_of g)) batch_next (taken_further (heard records) r before.kept batch_there)

  batch_on : (more : List Call) × ((heard (records ++ r ∷ [])).calls ≡ (taken (heard records)).calls ++ more)
  batch_on = subst (λ (g : Heard). (more : List Call) × (g.calls ≡ (taken (heard records)).calls ++ more)) batch_next (grows_hear (taken (heard records)) r).calls

  batch_round : grows.0.round ≡ length (day_of (heard records)).stops
  batch_round =
      round_is (heard records) (heard (records ++ r ∷ [])) grows.0 batch_further.messages batch_on.0 (of_records records) (of_records (records ++ r ∷ []))
      (batch_on.1 ∙ ap (λ (calls : List Call). calls ++ batch_on.0) ended.1 ∙ append_assoc (heard records).calls (Takes ∷ []) batch_on.0)
      (ap (λ (d : Day). d.messages) batch_further.is
      ∙ ap (λ (ms : List Message). ms ++ batch_further.messages) (came_messages (heard records) (taken (heard records)) earlier later old new grows.0 before ended.0 grows.1)
      ∙ append_assoc (day_of (heard records)).messages (grows.0 ∷ []) batch_further.messages)

  pub batch_of_day : AreOfDay (taken (heard records))
  batch_of_day =
      of_day_then (heard records) (taken (heard records)) grows.0 (of_records records) ended.1
      (came_messages (heard records) (taken (heard records)) earlier later old new grows.0 before ended.0 grows.1)
      (came_stops (heard records) (taken (heard records)) earlier later old new grows.0 before ended.0 grows.1) batch_round

  pub batch_lacks : (f : LiveFloor) → Fits later new → HasTold old f → LacksMessage new f
  batch_lacks f fits told = lacks_message (heard records) earlier later old new f grows.0 before fits grows.1 batch_round told

  batch_events : events_in (taken (heard records)).calls ≡ events_in (heard records).calls + 1
  batch_events = ap events_in ended.1 ∙ events_append (heard records).calls (Takes ∷ [])

  pub batch_count : suc (events_in (heard records).calls) ≡ came_in new
  batch_count =
      let count : events_in (heard records).calls + 1 ≡ came_in new = sym batch_events ∙ events_came (taken (heard records)) batch_of_day ∙ sym (room_came (taken (heard records)) later new ended.0) in
      omega (arith, count)

  pub batch_told : told_event new (events_in (heard records).calls) ≡ told_calls (day_of (heard (records ++ r ∷ []))) (events_in (heard records).calls) (Takes ∷ [])
  batch_told =
      let all : is_sound (day_of (heard (records ++ r ∷ []))) ≡ true = accepted_sound (records ++ r ∷ []) (begun_started (records ++ r ∷ []) ((records_continue records (r ∷ [])).begun batch_there)) in
      let count = batch_events in
      one_called new (events_in (heard records).calls)
      ∙ room_told (taken (heard records)) later new ended.0 (events_in (heard records).calls) (Takes ∷ [])
      ∙ sym (calls_same (day_of (taken (heard records))) (day_of (heard (records ++ r ∷ []))) (events_in (taken (heard records)).calls) (events_in (heard records).calls) (Takes ∷ [])
      (events_same (taken (heard records)) (heard (records ++ r ∷ [])) batch_on.0 batch_further batch_of_day (of_records (records ++ r ∷ [])) batch_on.1 (room_sound (taken (heard records)) later new ended.0) all)
      (omega (arith, count)))

pub none_called : (day : Day) (k : ℕ) → [] ≡ told_calls day k []
unfolding told_calls
none_called day k = refl

-- where nothing has come, all stays
pub still_working : (h : Heard) (work now : Work) → now.ear ≡ work.ear → now.setting.day ≡ work.setting.day → now.setting.found ≡ work.setting.found → now.setting.tables ≡ work.setting.tables → now.floor ≡ work.floor → IsWorking h work → IsWorking h now
still_working h work now ear day found tables floor w = record {
  heard = subst (λ (e : Ear). IsHeard h e now.setting.day) (sym ear) (subst (λ (d : Day). IsHeard h work.ear d) (sym day) w.heard);
  fits = subst (λ (e : Ear). Fits e now.setting.day) (sym ear) (subst (λ (d : Day). Fits work.ear d) (sym day) w.fits);
  room = subst (λ (t : BatchTables). HasRoomLeft now.setting.day now.setting.found t) (sym tables)
      (subst (λ (f : Found). HasRoomLeft now.setting.day f work.setting.tables) (sym found) (subst (λ (d : Day). HasRoomLeft d work.setting.found work.setting.tables) (sym day) w.room));
  told = subst (λ (f : LiveFloor). HasTold now.setting.day f) (sym floor) (subst (λ (d : Day). HasTold d work.floor) (sym day) w.told);
}
