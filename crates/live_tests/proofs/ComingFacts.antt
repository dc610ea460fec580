-- What comes to a day out of a whole one, and a floor for its setup.
use Rattle.std.proofs.Common.{◌≡◌, ◌∙◌, ◌+◌, ◌<◌, ◌≤◌, ◌++◌, ℕ, zero, suc, true, ◌&&◌, List, [], ◌∷◌, Option, Some, length, take, get_or, map, refl, sym, ap, subst, arith}
use Rattle.std.specs.Prelude.{Err, Ok, Result, min, nat_le, slice_get, unwrap_or}
use Rattle.std.proofs.lemmas.Bool.{and_from, and_parts, leb-true, le-leb}
use Rattle.std.proofs.lemmas.List.{length-append, length-take, take_more}
use Rattle.cash_amounts.specs.Numbers.{numbered}
use Rattle.cash_amounts.specs.declared.limits.TheConstants.{MAX_ENTRIES_OF_DAY, MAX_MESSAGES}
use Rattle.cash_amounts.specs.declared.records.AccountRecord.{AccountRecord}
use Rattle.cash_amounts.specs.declared.records.SystemRecord.{SystemRecord}
use Rattle.period_calendar.specs.Calendar.{CivilDay}
use Rattle.batch_records.specs.DayRecord.{Day, Room}
use Rattle.batch_records.specs.Flat.{body_with_entries, with_entries}
use Rattle.batch_records.specs.Growing.{with_last_entry, with_stop}
use Rattle.batch_records.specs.Sound.{is_sound, rounds_rise}
use Rattle.batch_records.specs.Step.{body_with, with_entry}
use Rattle.batch_records.specs.declared.day.DayCode.{DayCode}
use Rattle.batch_records.specs.declared.day.Entry.{Entry}
use Rattle.batch_records.specs.declared.day.Message.{Message}
use Rattle.batch_records.specs.declared.day.MessageRecord.{MessageRecord}
use Rattle.batch_records.specs.declared.day.RecordBody.{RecordBody}
use Rattle.batch_records.specs.declared.day.Reserve.{Reserve}
use Rattle.batch_records.specs.declared.day.RecordBody.TheVariants as records
use Rattle.batch_records.proofs.LastFacts.{with_last-split}
use Rattle.live_order.specs.Coming.{setup}
use Rattle.live_order.specs.LiveOrder.{live}
use Rattle.live_order.proofs.Events.SoundFront.{sound_front}
use Rattle.rule_book.specs.Repeated.{with_one}
use Rattle.settlement_laws.proofs.Base.SoundParts.{sound_parts}
use Rattle.settle_floor.specs.Floors.{OnFloor}
use Rattle.settle_floor.specs.Room.{IsOpen}
use Rattle.settle_floor.proofs.OpeningFacts.{opens}
use Rattle.settle_floor.proofs.RoomFacts.{opened_for}
use Rattle.live_day.specs.LiveFloors.{HasMade, came_in}
use Rattle.live_tests.specs.GrowingDays.{IsFront}

-- ---- an entry more

body_more : (e : Entry) (b : RecordBody) (row : List Entry) → body_with e (body_with_entries b row) ≡ body_with_entries b (row ++ e ∷ [])
body_more e (records.Batch procedure info from till count sum) row = refl
body_more e (records.Pay high debit credit amount) row = refl
body_more e (records.Liquidity debit credit amount) row = refl
body_more e (records.Object system batch) row = refl
body_more e (records.Confirm batch answer) row = refl
body_more e (records.Cycle start) row = refl

pub entry_more : (day : Day) (own : MessageRecord) (row : List Entry) (e : Entry) → with_last_entry e (with_one day (with_entries own row)) ≡ with_one day (with_entries own (row ++ e ∷ []))
entry_more day own row e =
    (λ i. record day { messages = with_last-split (with_entry e) day.messages (with_entries own row) i })
    ∙ (λ i. record day { messages = day.messages ++ (record { round = own.round; sender = own.sender; id = own.id; body = body_more e own.body row i }) ∷ [] })

pub next_entry : (es : List Entry) (i : ℕ) (e : Entry) → i < length es → e ≡ get_or es i e → take i es ++ e ∷ [] ≡ take (i + 1) es
next_entry es i e inside at = ap (λ (x : Entry). take i es ++ x ∷ []) at ∙ sym (take_more es i e inside)

-- ---- rounds rise

round_above : (last before : ℕ) (ms : List Message) (i : ℕ) (m : Message) → rounds_rise last before ms ≡ true → slice_get ms i ≡ Some m → before ≤ m.round
round_above last before [] i m rise there = cc there
round_above last before (x ∷ ms) zero m rise there =
    let p = and_parts (nat_le before x.round && nat_le x.round last) (rounds_rise last x.round ms) rise in
    let q = and_parts (nat_le before x.round) (nat_le x.round last) p.0 in
    let low = leb-true before x.round q.0 in
    let same : x.round ≡ m.round = ap (λ (o : Option Message). (unwrap_or o x).round) there in
    omega (arith, low, same)
round_above last before (x ∷ ms) (suc i) m rise there =
    let p = and_parts (nat_le before x.round && nat_le x.round last) (rounds_rise last x.round ms) rise in
    let q = and_parts (nat_le before x.round) (nat_le x.round last) p.0 in
    let low = leb-true before x.round q.0 in
    let rest = round_above last x.round ms i m p.1 there in
    omega (arith, low, rest)

-- up to a message that stands after so many stops
rounds_upto : (last before most : ℕ) (ms : List Message) (i : ℕ) (m : Message) → rounds_rise last before ms ≡ true → slice_get ms i ≡ Some m → m.round ≤ most → rounds_rise most before (take (suc i) ms) ≡ true
rounds_upto last before most [] i m rise there few = cc there
rounds_upto last before most (x ∷ ms) zero m rise there few =
    let p = and_parts (nat_le before x.round && nat_le x.round last) (rounds_rise last x.round ms) rise in
    let q = and_parts (nat_le before x.round) (nat_le x.round last) p.0 in
    let same : x.round ≡ m.round = ap (λ (o : Option Message). (unwrap_or o x).round) there in
    and_from _ _ (and_from _ _ q.0 (le-leb x.round most (omega (arith, same, few)))) refl
rounds_upto last before most (x ∷ ms) (suc i) m rise there few =
    let p = and_parts (nat_le before x.round && nat_le x.round last) (rounds_rise last x.round ms) rise in
    let q = and_parts (nat_le before x.round) (nat_le x.round last) p.0 in
    let rest = round_above last x.round ms i m p.1 there in
    and_from _ _ (and_from _ _ q.0 (le-leb x.round most (omega (arith, rest, few)))) (rounds_upto last x.round most ms i m p.1 there few)

rounds_wider : (last most before : ℕ) (ms : List Message) → last ≤ most → rounds_rise last before ms ≡ true → rounds_rise most before ms ≡ true
rounds_wider last most before [] few rise = refl
rounds_wider last most before (x ∷ ms) few rise =
    let p = and_parts (nat_le before x.round && nat_le x.round last) (rounds_rise last x.round ms) rise in
    let q = and_parts (nat_le before x.round) (nat_le x.round last) p.0 in
    let high = leb-true x.round last q.1 in
    and_from _ _ (and_from _ _ q.0 (le-leb x.round most (omega (arith, high, few)))) (rounds_wider last most x.round ms few p.1)

-- ---- the next message

taken_more : (ms : List Message) (i : ℕ) (m : Message) → slice_get ms i ≡ Some m → take i ms ++ m ∷ [] ≡ take (suc i) ms
taken_more [] i m there = cc there
taken_more (x ∷ ms) zero m there = ap (λ (o : Option Message). unwrap_or o m ∷ []) (sym there)
taken_more (x ∷ ms) (suc i) m there = ap (λ (xs : List Message). x ∷ xs) (taken_more ms i m there)

pub message_within : (ms : List Message) (i : ℕ) (m : Message) → slice_get ms i ≡ Some m → i < length ms
message_within [] i m there = cc there
message_within (x ∷ ms) zero m there = omega arith
message_within (x ∷ ms) (suc i) m there = let rest = message_within ms i m there in omega (arith, rest)

module _ (whole day : Day) (sound : is_sound whole ≡ true) (f : IsFront whole day) where
  own_messages : day.messages ≡ take (length day.messages) whole.messages
  own_messages = ap (λ (d : Day). d.messages) f.is

  own_stops : day.stops ≡ take (length day.stops) whole.stops
  own_stops = ap (λ (d : Day). d.stops) f.is

  pub message_front : (m : Message) → slice_get whole.messages (length day.messages) ≡ Some m → IsFront whole (with_one day m)
  message_front m there =
      let long : suc (length day.messages) ≡ length (day.messages ++ m ∷ []) = let count = length-append day.messages (m ∷ []) in omega (arith, count) in
      record {
        is = (λ i. record (f.is i) { messages = day.messages ++ m ∷ [] })
            ∙ (λ i. record whole { messages = (ap (λ (xs : List Message). xs ++ m ∷ []) own_messages ∙ taken_more whole.messages (length day.messages) m there ∙ ap (λ (n : ℕ). take n whole.messages) long) i; stops = take (length day.stops) whole.stops; room = day.room });
        room = f.room;
      }

  pub message_sound : (m : Message) → slice_get whole.messages (length day.messages) ≡ Some m → m.round ≡ length day.stops → is_sound (with_one day m) ≡ true
  message_sound m there round =
      let next = message_front m there in
      let long : length (day.messages ++ m ∷ []) ≡ suc (length day.messages) = let count = length-append day.messages (m ∷ []) in omega (arith, count) in
      let few : m.round ≤ length (take (length day.stops) whole.stops) = let same = ap (λ (xs : List ℕ). length xs) own_stops in omega (arith, same, round) in
      subst (λ (d : Day). is_sound d ≡ true) (sym next.is)
      (sound_front whole (length (day.messages ++ m ∷ [])) (length day.stops) sound
      (subst (λ (n : ℕ). rounds_rise (length (take (length day.stops) whole.stops)) 0 (take n whole.messages) ≡ true) (sym long)
      (rounds_upto (length whole.stops) 0 (length (take (length day.stops) whole.stops)) whole.messages (length day.messages) m (sound_parts whole sound).rounds there few)))

  -- ---- the next stop

  pub stop_front : (time : ℕ) → length day.stops < length whole.stops → time ≡ get_or whole.stops (length day.stops) 0 → IsFront whole (with_stop time day)
  stop_front time low at =
      let long : length day.stops + 1 ≡ length (day.stops ++ time ∷ []) = let count = length-append day.stops (time ∷ []) in omega (arith, count) in
      record {
        is = (λ i. record (f.is i) { stops = day.stops ++ time ∷ [] })
            ∙ (λ i. record whole { messages = take (length day.messages) whole.messages; stops = ((λ j. own_stops j ++ at j ∷ []) ∙ sym (take_more whole.stops (length day.stops) 0 low) ∙ ap (λ (n : ℕ). take n whole.stops) long) i; room = day.room });
        room = f.room;
      }

  pub stop_sound : (time : ℕ) → is_sound day ≡ true → length day.stops < length whole.stops → time ≡ get_or whole.stops (length day.stops) 0 → is_sound (with_stop time day) ≡ true
  stop_sound time own low at =
      let next = stop_front time low at in
      let more : length day.stops ≤ length (take (length (day.stops ++ time ∷ [])) whole.stops) = let count = length-append day.stops (time ∷ []) in let taken = length-take (length (day.stops ++ time ∷ [])) whole.stops in omega (arith, count, taken, low) in
      subst (λ (d : Day). is_sound d ≡ true) (sym next.is)
      (sound_front whole (length day.messages) (length (day.stops ++ time ∷ [])) sound
      (rounds_wider (length day.stops) (length (take (length (day.stops ++ time ∷ [])) whole.stops)) 0 (take (length day.messages) whole.messages) more
      (subst (λ (ms : List Message). rounds_rise (length day.stops) 0 ms ≡ true) own_messages (sound_parts day own).rounds)))

-- ---- the setup

-- one and the same file is one and the same day
pub same_day : (read : Result (Day × ℕ) (ℕ × DayCode)) (whole day : Day) (n k : ℕ) → read ≡ Ok (whole, n) → read ≡ Ok (day, k) → day ≡ whole
same_day read whole day n k first second = ap (λ (r : Result (Day × ℕ) (ℕ × DayCode)). day_in r) (sym second ∙ first)
  where
    day_in : Result (Day × ℕ) (ℕ × DayCode) → Day
    day_in (Ok r) = r.0
    day_in (Err e) = whole

abbrev started : ℕ → CivilDay → List AccountRecord → List SystemRecord → List Reserve → Room → Day
started version date accounts systems reserves room = record { version = version; date = date; accounts = accounts; systems = systems; reserves = reserves; stops = []; messages = []; room = room }

pub setup_day : (whole day : Day) (version : ℕ) (date : CivilDay) (accounts : List AccountRecord) (systems : List SystemRecord) (reserves : List Reserve) (room : Room) → day ≡ whole → version ≡ day.version → date ≡ day.date → accounts ≡ day.accounts
    → systems ≡ day.systems → reserves ≡ day.reserves → started version date accounts systems reserves room ≡ record whole { messages = []; stops = []; room = room }
setup_day whole day version date accounts systems reserves room same v d a s r = (λ i. started (v i) (d i) (a i) (s i) (r i) room) ∙ (λ i. record (same i) { messages = []; stops = []; room = room })

pub setup_front : (whole day : Day) (room : Room) → day ≡ record whole { messages = []; stops = []; room = room } → length whole.stops ≤ room.stops → IsFront whole day
setup_front whole day room is all = subst (IsFront whole) (sym is) (record { is = refl; room = all })

pub setup_sound : (whole day : Day) (room : Room) → is_sound whole ≡ true → day ≡ record whole { messages = []; stops = []; room = room } → is_sound day ≡ true
setup_sound whole day room sound is = subst (λ (d : Day). is_sound d ≡ true) (sym is) (sound_front whole 0 0 sound refl)

-- ---- a floor for it

no_events : (day : Day) → live day 0 [] ≡ []
unfolding live
no_events day = refl

pub made_none : (day : Day) (messages more : ℕ) (floor : OnFloor) (accounts : List AccountRecord) (till : List ℕ) → day.messages ≡ [] → day.stops ≡ [] → messages ≡ min day.room.messages MAX_MESSAGES → more ≡ min day.room.entries MAX_ENTRIES_OF_DAY
    → floor.journal.history ≡ [] → IsOpen (setup day) messages more floor → accounts ≡ day.accounts → till ≡ map (λ (r : AccountRecord). r.opening) accounts → HasMade day floor (numbered till)
made_none day messages more floor accounts till none first few less empty opened same openings =
    let bare : setup day ≡ day = λ i. record day { messages = sym none i; stops = sym first i } in
    let count : came_in day ≡ 0 = (λ i. length (none i) + length (first i)) in
    record {
      lines = empty ∙ sym (ap (λ (k : ℕ). live day k []) count ∙ no_events day);
      at_work = opens day accounts till floor same openings empty (opened_for day messages more floor (omega (arith, few)) (omega (arith, less)) (subst (λ (d : Day). IsOpen d messages more floor) bare opened));
    }
