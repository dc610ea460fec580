-- What holds of the floor of a live day, its till and its walk, after each event.
use Rattle.std.proofs.Common.{◌≡◌, ◌∙◌, ◌+◌, ◌-◌, ◌<◌, ◌≤◌, ◌++◌, ℕ, suc, true, List, [], ◌∷◌, drop, length, length-append, refl, sym, ap, subst, arith}
use Rattle.std.specs.Prelude.{Err, Ok, OnOk, Result}
use Rattle.cash_amounts.specs.Numbers.{numbered}
use Rattle.batch_records.specs.DayRecord.{Day}
use Rattle.batch_records.specs.Sound.{is_sound}
use Rattle.batch_records.specs.declared.day.Message.{Message}
use Rattle.commit_journal.specs.Histories.{Begins, oldest}
use Rattle.commit_journal.specs.Line.{History}
use Rattle.day_facts.specs.Room.{HasRoom}
use Rattle.day_facts.proofs.Room.{room_less}
use Rattle.machine.specs.Legal.{IsLegal}
use Rattle.machine.specs.Records.Messages.{entries}
use Rattle.machine.specs.Telling.History.{clock}
use Rattle.live_order.specs.Coming.{ComesNext, StaysLegal}
use Rattle.live_order.specs.LiveOrder.{live}
use Rattle.live_order.specs.Longer.{longer}
use Rattle.live_order.proofs.Events.LiveGrows.{live_stays}
use Rattle.rule_book.specs.Repeated.{with_one}
use Rattle.settle_floor.specs.Floors.{IsBalanced, OnFloor, entries_left, messages_left}
use Rattle.status_messages.specs.Walks.{Stands, Walk}
use Rattle.live_day.specs.LiveFloors.{HasMade, came_in}
use Rattle.closing_balances.specs.Closing.{closing_text}
use Rattle.live_day.specs.Told.{closing, told_behind, told_event}
use Rattle.live_day.specs.Working.{HasTold, IsOver, LacksMessage, LacksStop}
use Rattle.live_day.specs.declared.live_floor.LiveFloor.{LiveFloor}
use Rattle.live_day.proofs.FloorFacts.{behind_clock, brings, comes, legal_with_message, legal_with_stop, longer_message, longer_stop}
use Rattle.live_day.proofs.OneMore.{journal_is, message_before, stop_before}
use Rattle.live_day.proofs.SettingGrows.{sum_more}

-- ---- the lines of one event more

-- these are the lines of the first k events, and then one more comes
pub record Goes (day : Day) (k : ℕ) (old new : History) : Type 0 where
  pub before : old ≡ live day k []
  pub after : new ≡ live day (suc k) []

pub goes_told : (day : Day) (k first : ℕ) (old new : History) → Goes day k old new → first ≡ length old → told_behind day first new ≡ told_event day k
goes_told day k first old new g is = λ i. told_behind day ((is ∙ ap length g.before) i) (g.after i)

goes_begins : (day : Day) (k : ℕ) (old new : History) → Goes day k old new → Begins old new
goes_begins day k old new g =
    let next : k + 1 ≡ suc k = omega arith in
    let b = live_stays day k 1 in
    (b.0, g.after ∙ sym (ap (λ (n : ℕ). live day n []) next) ∙ b.1 ∙ ap (λ (J : History). b.0 ++ J) (sym g.before))

drop_front : (more old : History) → drop (length more) (more ++ old) ≡ old
drop_front [] old = refl
drop_front (l ∷ more) old = drop_front more old

pub goes_few : (day : Day) (k first : ℕ) (old new : History) → Goes day k old new → first ≡ length old → first ≤ length new
goes_few day k first old new g is =
    let b = goes_begins day k old new g in
    let long : length new ≡ length b.0 + length old = ap length b.1 ∙ length-append b.0 old in
    omega (arith, long, is)

pub goes_oldest : (day : Day) (k first : ℕ) (old new : History) → Goes day k old new → first ≡ length old → oldest new first ≡ old
goes_oldest day k first old new g is =
    let b = goes_begins day k old new g in
    let long : length new - first ≡ length b.0 = (let both : length new ≡ length b.0 + length old = ap length b.1 ∙ length-append b.0 old in omega (arith, both, is)) in
    (λ i. drop (long i) (b.1 i)) ∙ drop_front b.0 old

-- ---- a message comes

module _ (whole : Day) (n : ℕ) (f : LiveFloor) (number : n ≡ length whole.messages) (k : LacksMessage whole f) (sound : is_sound whole ≡ true) where
  count_message : came_in whole ≡ suc (came_in k.comes.before)
  count_message =
      let long : length whole.messages ≡ length k.comes.before.messages + 1 = ap (λ (d : Day). length d.messages) k.comes.longer ∙ length-append k.comes.before.messages (k.comes.last ∷ []) in
      let same : length whole.stops ≡ length k.comes.before.stops = ap (λ (d : Day). length d.stops) k.comes.longer in
      omega (arith, long, same)

  pub message_goes : (i : ℕ) → suc i ≡ came_in whole → (new : History) → new ≡ live whole (came_in whole) [] → Goes whole i f.floor.journal.history new
  message_goes i e new made =
      let all = subst (λ (d : Day). is_sound d ≡ true) k.comes.longer sound in
      let same : i ≡ came_in k.comes.before = (let count = count_message in omega (arith, e, count)) in
      record {
        before = k.comes.made.lines ∙ sym (message_before k.comes.before k.comes.last k.comes.sound all k.comes.round)
            ∙ (λ j. live (sym k.comes.longer j) (sym same j) []);
        after = made ∙ ap (λ (c : ℕ). live whole c []) (sym e);
      }

  pub message_room : HasRoom 1 (length (entries whole n)) f.walk.facts
  message_room =
      let low = k.comes.low in
      let few = k.comes.few in
      let own = brings whole k.comes.before k.comes.last n k.comes.longer number in
      room_less (messages_left k.comes.before) (entries_left k.comes.before) 1 (length (entries whole n)) f.walk.facts (omega (arith, low)) (omega (arith, few, own)) k.room

  pub message_stands : (walk : Walk)
      → ((day : Day) (m : Message) (ms : List Message) (ss : List ℕ) (J : History) → ComesNext whole n day m ms ss → StaysLegal day m J → Stands day J f.walk → Stands (longer day (m ∷ []) []) J walk)
      → Stands whole f.floor.journal.history walk
  message_stands walk comes_to =
      let all = subst (λ (d : Day). is_sound d ≡ true) k.comes.longer sound in
      let after = comes_to k.comes.before k.comes.last [] [] f.floor.journal.history (comes whole k.comes.before k.comes.last n k.comes.longer number)
      (record {
        before = k.comes.made.at_work.opened.fits.legal;
        after = legal_with_message k.comes.before k.comes.last f.floor.journal.history k.comes.sound all k.comes.round k.comes.made.lines;
      })
      k.stands in
      subst (λ (d : Day). Stands d f.floor.journal.history walk) (longer_message k.comes.before k.comes.last ∙ sym k.comes.longer) after

  -- and then there is room for what may still come
  pub message_left : (walk : Walk) → ((messages more : ℕ) → HasRoom (messages + 1) (more + length (entries whole n)) f.walk.facts → HasRoom messages more walk.facts) → HasRoom (messages_left whole) (entries_left whole) walk.facts
  message_left walk takes =
      let low = k.comes.low in
      let few = k.comes.few in
      let own = brings whole k.comes.before k.comes.last n k.comes.longer number in
      let messages : messages_left whole + 1 ≤ messages_left k.comes.before =
      (let count = length-append k.comes.before.messages (k.comes.last ∷ []) in let same : messages_left whole ≡ messages_left (with_one k.comes.before k.comes.last) = ap messages_left k.comes.longer in omega (arith, low, count, same)) in
      let more : entries_left whole + length (entries whole n) ≤ entries_left k.comes.before =
      (let sum = sum_more k.comes.before.messages k.comes.last in let same : entries_left whole ≡ entries_left (with_one k.comes.before k.comes.last) = ap entries_left k.comes.longer in omega (arith, few, sum, same, own)) in
      takes (messages_left whole) (entries_left whole)
      (room_less (messages_left k.comes.before) (entries_left k.comes.before) (messages_left whole + 1) (entries_left whole + length (entries whole n)) f.walk.facts messages more k.room)

-- ---- a stop comes

module _ (whole : Day) (time : ℕ) (f : LiveFloor) (k : LacksStop whole time f) (sound : is_sound whole ≡ true) where
  count_stop : came_in whole ≡ suc (came_in k.comes.before)
  count_stop =
      let long : length whole.stops ≡ length k.comes.before.stops + 1 = ap (λ (d : Day). length d.stops) k.comes.longer ∙ length-append k.comes.before.stops (time ∷ []) in
      let same : length whole.messages ≡ length k.comes.before.messages = ap (λ (d : Day). length d.messages) k.comes.longer in
      omega (arith, long, same)

  pub stop_goes : (i : ℕ) → suc i ≡ came_in whole → (new : History) → new ≡ live whole (came_in whole) [] → Goes whole i f.floor.journal.history new
  stop_goes i e new made =
      let all = subst (λ (d : Day). is_sound d ≡ true) k.comes.longer sound in
      let same : i ≡ came_in k.comes.before = (let count = count_stop in omega (arith, e, count)) in
      record {
        before = k.comes.made.lines ∙ sym (stop_before k.comes.before time k.comes.sound all)
            ∙ (λ j. live (sym k.comes.longer j) (sym same j) []);
        after = made ∙ ap (λ (c : ℕ). live whole c []) (sym e);
      }

  pub stop_stands : ((day : Day) (t : ℕ) (J : History) (walk : Walk) → clock J < t → IsLegal (longer day [] (t ∷ [])) J → Stands day J walk → Stands (longer day [] (t ∷ [])) J walk) → Stands whole f.floor.journal.history f.walk
  stop_stands law =
      let all = subst (λ (d : Day). is_sound d ≡ true) k.comes.longer sound in
      let behind = behind_clock k.comes.before time f.floor.journal.history k.comes.sound all k.comes.made.lines in
      subst (λ (d : Day). Stands d f.floor.journal.history f.walk) (longer_stop k.comes.before time ∙ sym k.comes.longer)
      (law k.comes.before time f.floor.journal.history f.walk behind.0 (legal_with_stop k.comes.before time f.floor.journal.history k.comes.sound all k.comes.made.lines) k.stands)

  pub stop_left : HasRoom (messages_left whole) (entries_left whole) f.walk.facts
  stop_left = subst (λ (d : Day). HasRoom (messages_left d) (entries_left d) f.walk.facts) (sym k.comes.longer) k.room

-- ---- the day is over

pub end_goes : (day : Day) (f : LiveFloor) (new : History) → HasTold day f → new ≡ live day (suc (came_in day)) [] → Goes day (came_in day) f.floor.journal.history new
end_goes day f new told made = record { before = told.made.lines; after = made }

pub over_closing : (day : Day) (f : LiveFloor) → is_sound day ≡ true → IsOver day f → closing_text day f.floor.journal.history ≡ closing day
over_closing day f sound over = ap (closing_text day) (over.lines ∙ journal_is day sound)

pub over_balanced : (day : Day) (f : LiveFloor) → IsOver day f → IsBalanced day f.floor.journal (numbered f.till)
over_balanced day f over = record { legal = over.at_work.opened.fits.legal; kept = over.at_work.kept; all = over.at_work.all }

-- ---- one event more is told

-- what is needed to tell it, and what holds then
module _ (day : Day) (f new : LiveFloor) (first : ℕ) (past : History) (is : past ≡ f.floor.journal.history) (number : first ≡ length past) where
  number_of : first ≡ length f.floor.journal.history
  number_of = number ∙ ap length is

  pub few_told : (k : ℕ) → Goes day k f.floor.journal.history new.floor.journal.history → (lines : History) → lines ≡ new.floor.journal.history → first ≤ length lines
  few_told k g lines same = subst (λ (J : History). first ≤ length J) (sym same) (goes_few day k first f.floor.journal.history new.floor.journal.history g number_of)

  pub stands_told : (k : ℕ) → Goes day k f.floor.journal.history new.floor.journal.history → (lines : History) → lines ≡ new.floor.journal.history → (walk : Walk) → Stands day f.floor.journal.history walk
      → Stands day (oldest lines first) walk
  stands_told k g lines same walk stands =
      subst (λ (J : History). Stands day J walk) (sym (ap (λ (J : History). oldest J first) same ∙ goes_oldest day k first f.floor.journal.history new.floor.journal.history g number_of)) stands

  pub text_told : (k : ℕ) → Goes day k f.floor.journal.history new.floor.journal.history → (lines : History) → lines ≡ new.floor.journal.history → told_behind day first lines ≡ told_event day k
  text_told k g lines same = ap (told_behind day first) same ∙ goes_told day k first f.floor.journal.history new.floor.journal.history g number_of

-- the number of the last event
pub last_event : (day : Day) (f : LiveFloor) → LacksMessage day f → (k : ℕ) × (suc k ≡ came_in day)
last_event day f k =
    let long : length day.messages ≡ length k.comes.before.messages + 1 = ap (λ (d : Day). length d.messages) k.comes.longer ∙ length-append k.comes.before.messages (k.comes.last ∷ []) in
    (length k.comes.before.messages + length day.stops, omega (arith, long))

pub last_stop_event : (day : Day) (time : ℕ) (f : LiveFloor) → LacksStop day time f → (k : ℕ) × (suc k ≡ came_in day)
last_stop_event day time f k =
    let long : length day.stops ≡ length k.comes.before.stops + 1 = ap (λ (d : Day). length d.stops) k.comes.longer ∙ length-append k.comes.before.stops (time ∷ []) in
    (length day.messages + length k.comes.before.stops, omega (arith, long))

-- all is told that is made
pub told_now : {T E : Type 0} (day : Day) (floor : OnFloor) (till : List ℕ) (walk : Walk) (result : Result T E) (lines : History) → lines ≡ floor.journal.history → HasMade day floor (numbered till) → OnOk result (Stands day lines walk)
    → HasRoom (messages_left day) (entries_left day) walk.facts → OnOk result (HasTold day (record { floor = floor; till = till; walk = walk }))
told_now day floor till walk (Ok value) lines same made stands room = record { made = made; stands = subst (λ (J : History). Stands day J walk) same stands; room = room }
told_now day floor till walk (Err fault) lines same made stands room = tt
