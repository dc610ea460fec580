-- What holds of the floor of a live day after each event.
use Rattle.std.proofs.Common.{◌≡◌, ◌∙◌, ◌+◌, ◌<◌, ◌≤◌, ◌++◌, ℕ, suc, true, List, [], ◌∷◌, Option, Some, length, append-nil, refl, sym, ap, subst, arith}
use Rattle.std.specs.Prelude.{min, nat_lt, slice_get, unwrap_or}
use Rattle.std.proofs.lemmas.Bool.{and_parts, ltb-true}
use Rattle.std.proofs.lemmas.List.{length-append}
use Rattle.cash_amounts.specs.Numbers.{numbered}
use Rattle.cash_amounts.specs.declared.limits.TheConstants.{MAX_ENTRIES_OF_DAY, MAX_MESSAGES}
use Rattle.batch_records.specs.DayRecord.{Day}
use Rattle.batch_records.specs.Growing.{with_stop}
use Rattle.batch_records.specs.Sound.{is_sound, entries_in, stops_rise}
use Rattle.batch_records.specs.declared.day.Entry.{Entry}
use Rattle.batch_records.specs.declared.day.Message.{Message}
use Rattle.commit_journal.specs.Kept.{Kept}
use Rattle.commit_journal.specs.Line.{History}
use Rattle.commit_journal.specs.declared.line.Want.TheVariants as wants
use Rattle.machine.specs.Legal.{IsLegal}
use Rattle.machine.specs.Orders.Bounds.{entries_of_all}
use Rattle.machine.specs.Orders.Order.{append, quiet, to_end}
use Rattle.machine.specs.Records.Messages.{entries}
use Rattle.machine.specs.Telling.Balances.{balance}
use Rattle.machine.specs.Telling.History.{clock}
use Rattle.settlement_laws.proofs.Base.SoundParts.{sound_parts}
use Rattle.live_order.specs.Coming.{ComesNext}
use Rattle.live_order.specs.LiveOrder.{laps_to, live}
use Rattle.live_order.specs.Longer.{longer}
use Rattle.rule_book.specs.Repeated.{with_one}
use Rattle.settle_floor.specs.Floors.{AtWork, HasPlaces, IsFor, OnFloor, entries_left, messages_left}
use Rattle.settle_floor.proofs.RoomFacts.{entries_next, places_less}
use Rattle.live_day.specs.LiveFloors.{HasMade, MessageComes, StopComes, came_in}
use Rattle.live_day.proofs.OneMore.{clock_now, end_lines, message_legal, message_lines, stop_legal, stop_lines}

-- ---- the longer day, in both spellings

pub longer_message : (day : Day) (m : Message) → longer day (m ∷ []) [] ≡ with_one day m
longer_message day m = λ i. record day { messages = day.messages ++ m ∷ []; stops = append-nil day.stops i }

pub longer_stop : (day : Day) (t : ℕ) → longer day [] (t ∷ []) ≡ with_stop t day
longer_stop day t = λ i. record day { messages = append-nil day.messages i; stops = day.stops ++ t ∷ [] }

-- ---- a message comes

pub comes : (whole day : Day) (m : Message) (n : ℕ) → whole ≡ with_one day m → n ≡ length whole.messages → ComesNext whole n day m [] []
comes whole day m n is number = record {
  is = is ∙ sym (longer_message day m);
  number = number ∙ ap (λ (d : Day). length d.messages) is ∙ length-append day.messages (m ∷ []);
}

pub brings : (whole day : Day) (m : Message) (n : ℕ) → whole ≡ with_one day m → n ≡ length whole.messages → length (entries whole n) ≡ length (entries_in m.body)
brings whole day m n is number = ap (length {A = Entry}) (entries_next whole n day m [] [] (comes whole day m n is number))

-- the floor is at work for the longer day, before the message is taken
arrived : (day : Day) (m : Message) (old new : OnFloor) (till : ℕ → Option ℕ) → AtWork day old till → IsFor (longer day (m ∷ []) []) new → new.journal ≡ old.journal → AtWork (with_one day m) new till
arrived day m old new till work opened same = record {
  opened = subst (λ (d : Day). IsFor d new) (longer_message day m) opened;
  kept = λ a held is. work.kept a held is ∙ ap (λ (j : Kept). balance day j.history a) (sym same);
  all = work.all;
}

stopped : (day : Day) (t : ℕ) (old new : OnFloor) (till : ℕ → Option ℕ) → AtWork day old till → IsFor (longer day [] (t ∷ [])) new → new.journal ≡ old.journal → AtWork (with_stop t day) new till
stopped day t old new till work opened same = record {
  opened = subst (λ (d : Day). IsFor d new) (longer_stop day t) opened;
  kept = λ a held is. work.kept a held is ∙ ap (λ (j : Kept). balance day j.history a) (sym same);
  all = work.all;
}

-- the lines so far are legal for the longer day
pub legal_with_message : (day : Day) (m : Message) (J : History) → is_sound day ≡ true → is_sound (with_one day m) ≡ true → m.round ≡ length day.stops → J ≡ live day (came_in day) [] → IsLegal (longer day (m ∷ []) []) J
legal_with_message day m J sound all round is =
    subst (λ (d : Day). IsLegal d J) (sym (longer_message day m)) (subst (IsLegal (with_one day m)) (sym is) (message_legal day m sound all round))

pub legal_with_stop : (day : Day) (t : ℕ) (J : History) → is_sound day ≡ true → is_sound (with_stop t day) ≡ true → J ≡ live day (came_in day) [] → IsLegal (longer day [] (t ∷ [])) J
legal_with_stop day t J sound all is =
    subst (λ (d : Day). IsLegal d J) (sym (longer_stop day t)) (subst (IsLegal (with_stop t day)) (sym is) (stop_legal day t sound all))

-- and what is made then is what the events of the longer day make
lines_with_message : (day : Day) (m : Message) (n : ℕ) (J K : History) → is_sound day ≡ true → is_sound (with_one day m) ≡ true → m.round ≡ length day.stops → n ≡ length day.messages + 1 → J ≡ live day (came_in day) []
    → K ≡ quiet (with_one day m) (append (with_one day m) J (wants.In n)) → K ≡ live (with_one day m) (came_in (with_one day m)) []
lines_with_message day m n J K sound all round number is made =
    let number' : n ≡ suc (length day.messages) = omega (arith, number) in
    let count : suc (came_in day) ≡ came_in (with_one day m) = let long = length-append day.messages (m ∷ []) in omega (arith, long) in
    made ∙ (λ i. quiet (with_one day m) (append (with_one day m) (is i) (wants.In (number' i))))
    ∙ sym (message_lines day m sound all round)
    ∙ ap (λ (k : ℕ). live (with_one day m) k []) count

lines_with_stop : (day : Day) (t : ℕ) (J K : History) → is_sound day ≡ true → is_sound (with_stop t day) ≡ true → J ≡ live day (came_in day) [] → K ≡ quiet (with_stop t day) (laps_to (with_stop t day) t J) → K ≡ live (with_stop t day) (came_in (with_stop t day)) []
lines_with_stop day t J K sound all is made =
    let count : suc (came_in day) ≡ came_in (with_stop t day) = let long = length-append day.stops (t ∷ []) in omega (arith, long) in
    made ∙ ap (λ (L : History). quiet (with_stop t day) (laps_to (with_stop t day) t L)) is ∙ sym (stop_lines day t sound all) ∙ ap (λ (k : ℕ). live (with_stop t day) k []) count

pub lines_at_end : (day : Day) (J K : History) → is_sound day ≡ true → J ≡ live day (came_in day) [] → K ≡ to_end day J → K ≡ live day (suc (came_in day)) []
lines_at_end day J K sound is made = made ∙ ap (to_end day) is ∙ sym (end_lines day sound)

-- the last of these stops, or what is before them
abbrev last_of : ℕ → List ℕ → ℕ
last_of before [] = before
last_of before (s ∷ ss) = last_of s ss

last_is : (s : ℕ) (ss : List ℕ) → slice_get (s ∷ ss) (length ss) ≡ Some (last_of s ss)
last_is s [] = refl
last_is s (x ∷ ss) = last_is x ss

stop_is : (ss : List ℕ) → unwrap_or (numbered ss (length ss)) 0 ≡ last_of 0 ss
stop_is [] = refl
stop_is (s ∷ ss) = ap (λ (o : Option ℕ). unwrap_or o 0) (last_is s ss)

-- a further stop is after the clock
pub behind_clock : (day : Day) (t : ℕ) (J : History) → is_sound day ≡ true → is_sound (with_stop t day) ≡ true → J ≡ live day (came_in day) [] → (clock J < t) × (t < 86401)
behind_clock day t J sound all is =
    let now : clock J ≡ last_of 0 day.stops = ap clock is ∙ (clock_now day sound).0 ∙ stop_is day.stops in
    let last = rise_last day.stops t 0 (sound_parts (with_stop t day) all).stops in
    (omega (arith, now, last.0), omega (arith, last.1))
  where
    rise_last : (ss : List ℕ) (t before : ℕ) → stops_rise before (ss ++ (t ∷ [])) ≡ true → (last_of before ss < t) × (t < 86400)
    rise_last [] t before h = let p = and_parts (nat_lt before t) (nat_lt t 86400) (and_parts _ true h).0 in (ltb-true before t p.0, ltb-true t 86400 p.1)
    rise_last (s ∷ ss) t before h = rise_last ss t s (and_parts _ (stops_rise s (ss ++ (t ∷ []))) h).1

-- ---- the last message of a day has come in

module _ (whole : Day) (n : ℕ) (floor : OnFloor) (till : ℕ → Option ℕ) (number : n ≡ length whole.messages) (k : MessageComes whole floor till) where
  pub places_for : HasPlaces 1 (length (entries whole n)) floor.index
  places_for =
      let own = brings whole k.before k.last n k.longer number in
      let low = k.low in
      let few = k.few in
      places_less (messages_left k.before) (entries_left k.before) 1 (length (entries whole n)) floor (omega (arith, low)) (omega (arith, own, few)) k.made.at_work.opened.room.places

  pub at_work_with : (new : OnFloor) → is_sound whole ≡ true → new.journal ≡ floor.journal
      → ((day : Day) (m : Message) (ms : List Message) (ss : List ℕ) → ComesNext whole n day m ms ss → IsLegal (longer day (m ∷ []) []) floor.journal.history → length day.messages < min day.room.messages MAX_MESSAGES
      → entries_of_all day + length (entries whole n) ≤ min day.room.entries MAX_ENTRIES_OF_DAY → IsFor day floor → IsFor (longer day (m ∷ []) []) new) → AtWork whole new till
  at_work_with new sound same opens =
      let all = subst (λ (d : Day). is_sound d ≡ true) k.longer sound in
      let own = brings whole k.before k.last n k.longer number in
      let few = k.few in
      let opened = opens k.before k.last [] [] (comes whole k.before k.last n k.longer number) (legal_with_message k.before k.last floor.journal.history k.sound all k.round k.made.lines) k.low (omega (arith, own, few)) k.made.at_work.opened in
      subst (λ (d : Day). AtWork d new till) (sym k.longer) (arrived k.before k.last floor new till k.made.at_work opened same)

  pub made_with : (new last : OnFloor) (later : ℕ → Option ℕ) → is_sound whole ≡ true → new.journal ≡ floor.journal → last.journal.history ≡ quiet whole (append whole new.journal.history (wants.In n)) → AtWork whole last later → HasMade whole last later
  made_with new last later sound same made work =
      let all = subst (λ (d : Day). is_sound d ≡ true) k.longer sound in
      let next : n ≡ length k.before.messages + 1 = (comes whole k.before k.last n k.longer number).number in
      let lines : new.journal.history ≡ live k.before (came_in k.before) [] = ap (λ (j : Kept). j.history) same ∙ k.made.lines in
      let made' : last.journal.history ≡ quiet (with_one k.before k.last) (append (with_one k.before k.last) new.journal.history (wants.In n)) =
      subst (λ (d : Day). last.journal.history ≡ quiet d (append d new.journal.history (wants.In n))) k.longer made in
      record {
        lines = subst (λ (d : Day). last.journal.history ≡ live d (came_in d) []) (sym k.longer) (lines_with_message k.before k.last n new.journal.history last.journal.history k.sound all k.round next lines made');
        at_work = work;
      }

-- ---- its last stop has

module _ (whole : Day) (time : ℕ) (floor : OnFloor) (till : ℕ → Option ℕ) (k : StopComes whole time floor till) where
  pub early_stop : is_sound whole ≡ true → time ≤ 86400
  early_stop sound = let late = (behind_clock k.before time floor.journal.history k.sound (subst (λ (d : Day). is_sound d ≡ true) k.longer sound) k.made.lines).1 in omega (arith, late)

  pub at_work_at : (new : OnFloor) → is_sound whole ≡ true → new.journal ≡ floor.journal
      → ((day : Day) → time < 86401 → clock floor.journal.history < time → IsLegal (longer day [] (time ∷ [])) floor.journal.history → IsFor day floor → IsFor (longer day [] (time ∷ [])) new) → AtWork whole new till
  at_work_at new sound same opens =
      let all = subst (λ (d : Day). is_sound d ≡ true) k.longer sound in
      let behind = behind_clock k.before time floor.journal.history k.sound all k.made.lines in
      let opened = opens k.before behind.1 behind.0 (legal_with_stop k.before time floor.journal.history k.sound all k.made.lines) k.made.at_work.opened in
      subst (λ (d : Day). AtWork d new till) (sym k.longer) (stopped k.before time floor new till k.made.at_work opened same)

  pub made_at : (new last : OnFloor) (later : ℕ → Option ℕ) → is_sound whole ≡ true → new.journal ≡ floor.journal → last.journal.history ≡ quiet whole (laps_to whole time new.journal.history) → AtWork whole last later → HasMade whole last later
  made_at new last later sound same made work =
      let all = subst (λ (d : Day). is_sound d ≡ true) k.longer sound in
      let lines : new.journal.history ≡ live k.before (came_in k.before) [] = ap (λ (j : Kept). j.history) same ∙ k.made.lines in
      let made' : last.journal.history ≡ quiet (with_stop time k.before) (laps_to (with_stop time k.before) time new.journal.history) =
      subst (λ (d : Day). last.journal.history ≡ quiet d (laps_to d time new.journal.history)) k.longer made in
      record {
        lines = subst (λ (d : Day). last.journal.history ≡ live d (came_in d) []) (sym k.longer) (lines_with_stop k.before time new.journal.history last.journal.history k.sound all lines made');
        at_work = work;
      }
