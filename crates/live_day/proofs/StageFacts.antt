-- What the records of a live day come to with one more, and the day that is opened after its setup.
use Rattle.std.proofs.Common.{◌≡◌, ◌∙◌, ◌+◌, ◌≤◌, ◌++◌, ℕ, Bool, true, false, List, [], ◌∷◌, append-nil, length, map, refl, sym, ap, subst, arith}
use Rattle.std.specs.Prelude.{◌&&◌, ◌||◌, nat_le, sum_by}
use Rattle.std.proofs.lemmas.Bool.{and_parts, leb-true}
use Rattle.cash_amounts.specs.Numbers.{numbered}
use Rattle.cash_amounts.specs.SoundSetup.{is_within_limits, sound_setup}
use Rattle.cash_amounts.specs.declared.cents.TheConstants.{MAX_CENTS}
use Rattle.cash_amounts.specs.declared.limits.TheConstants.{MAX_ACCOUNTS, MAX_ENTRIES_OF_DAY, MAX_MESSAGES, MAX_SYSTEMS}
use Rattle.cash_amounts.specs.declared.records.AccountRecord.{AccountRecord}
use Rattle.batch_records.specs.DayRecord.{Day, Room}
use Rattle.batch_records.specs.Made.{day_in, so_far_of}
use Rattle.batch_records.specs.Records.{Fields}
use Rattle.batch_records.specs.Sound.{is_sound}
use Rattle.batch_records.specs.declared.day.DayCode.{DayCode}
use Rattle.batch_records.specs.declared.day.Message.{Message}
use Rattle.batch_records.specs.declared.so_far.SoFar.{SoFar}
use Rattle.batch_records.proofs.KeptFacts.{day_sound}
use Rattle.commit_journal.specs.Line.{History}
use Rattle.program_answers.specs.Answers.{refusal_text}
use Rattle.record_rows.specs.Rows.{kept_row}
use Rattle.machine.specs.Orders.Bounds.{entries_of_all}
use Rattle.settlement_laws.proofs.Base.SoundParts.{sound_parts}
use Rattle.day_facts.specs.Room.{HasRoom}
use Rattle.live_order.specs.Coming.{setup}
use Rattle.live_order.specs.LiveOrder.{live}
use Rattle.live_records.specs.Ears.{HasAllRoom}
use Rattle.live_records.specs.Heard.{Breaks, Heard, has_end, hear, heard, nothing}
use Rattle.live_records.specs.Setups.{HearsSetup, IsOfSetup, IsSetup}
use Rattle.live_records.specs.declared.setup.Setup.{Setup}
use Rattle.live_records.proofs.AcceptedFacts.{ended_started}
use Rattle.live_records.proofs.Continuing.{heard_next}
use Rattle.rule_book.specs.Room as of_book
use Rattle.rule_book.specs.declared.batch_tables.BatchTables.{BatchTables}
use Rattle.rule_book.specs.declared.found.Found.{Found}
use Rattle.settle_floor.specs.Floors.{AtWork, IsFor, OnFloor, entries_left, messages_left}
use Rattle.settle_floor.specs.Room.{IsOpen}
use Rattle.settle_floor.proofs.OpeningFacts.{opens}
use Rattle.settle_floor.proofs.RoomFacts.{for_day}
use Rattle.status_messages.specs.Walks.{Stands}
use Rattle.live_day.specs.Hearing.{HasRoomLeft}
use Rattle.live_day.specs.LiveFloors.{HasMade, came_in}
use Rattle.live_day.specs.Rooms.{AreRooms, IsWithin}
use Rattle.live_day.specs.NextRecord.{HasEnd}
use Rattle.live_day.specs.Stages.{IsAt, IsEarly, IsReady}
use Rattle.live_day.specs.Told.{told_calls}
use Rattle.live_day.specs.Working.{HasTold, TellsRow}
use Rattle.live_day.specs.declared.live_floor.LiveFloor.{LiveFloor}
use Rattle.live_day.specs.declared.rooms.Rooms.{Rooms}
use Rattle.live_day.specs.declared.stage.Stage.{Stage}
use Rattle.live_day.specs.declared.stage.Stage.TheVariants as stages

-- ---- before the first record

pub early_first : (s : Setup) (rooms : Rooms) → IsSetup nothing s.so_far → IsOfSetup s.so_far → AreRooms rooms → IsEarly [] s rooms
unfolding heard
early_first s rooms first fits are = record { heard = first; of_setup = fits; room = are }

-- ---- one record more

-- one that calls for nothing
pub tells_none : (records : List Fields) (r : Fields) → (hear (heard records) r).calls ≡ (heard records).calls → TellsRow records r []
unfolding told_calls
tells_none records r same = record {
  more = [];
  calls = ap (λ (h : Heard). h.calls) (heard_next records r) ∙ same ∙ sym (append-nil (heard records).calls);
  is = refl;
}

-- one that ends the run
pub tells_bad : (records : List Fields) (r : Fields) (number : ℕ) (c : DayCode) → number ≡ (heard records).count + 1 → (hear (heard records) r).calls ≡ (heard records).calls ++ Breaks ((heard records).count + 1) c ∷ []
    → TellsRow records r (refusal_text number c)
unfolding told_calls
tells_bad records r number c place calls = record {
  more = Breaks number c ∷ [];
  calls = ap (λ (h : Heard). h.calls) (heard_next records r) ∙ calls ∙ ap (λ (n : ℕ). (heard records).calls ++ Breaks n c ∷ []) (sym place);
  is = sym (append-nil (refusal_text number c));
}

pub broken_next : (records : List Fields) (r : Fields) → (hear (heard records) r).broken ≡ true → (heard (records ++ r ∷ [])).broken ≡ true
broken_next records r broken = ap (λ (h : Heard). h.broken) (heard_next records r) ∙ broken

pub early_next : (records : List Fields) (r row : Fields) (old new : Setup) (rooms : Rooms) → IsEarly records old rooms → row ≡ kept_row r → HearsSetup row old.so_far new.so_far → IsOfSetup new.so_far → IsEarly (records ++ r ∷ []) new rooms
early_next records r row old new rooms early is hears fits = record {
  heard = subst (λ (h : Heard). IsSetup h new.so_far) (sym (heard_next records r)) (hears (heard records) r is early.heard).0;
  of_setup = fits;
  room = early.room;
}

-- ---- a day of its setup alone

pub record IsNew (day : Day) : Type 0 where
  pub sound : is_sound day ≡ true
  pub messages : day.messages ≡ []
  pub stops : day.stops ≡ []
  pub room : HasAllRoom day.room
  pub within : IsWithin day

few_systems : (day : Day) → is_sound day ≡ true → length day.systems ≤ MAX_SYSTEMS
few_systems day sound =
    let limits = and_parts _ (is_within_limits day.accounts day.systems) (sound_parts day sound).setup in
    let front = and_parts _ (nat_le (sum_by (λ r. r.opening) day.accounts) MAX_CENTS) limits.1 in
    leb-true _ _ (and_parts (nat_le (length day.systems) MAX_SYSTEMS) (nat_le (length day.accounts) MAX_ACCOUNTS) front.0).0

new_in : (s : SoFar) (room : Room) → IsOfSetup s → s.started ≡ true → HasAllRoom room → IsNew (record (day_in s) { room = room })
new_in s room fits started all =
    let sound : is_sound (record (day_in s) { room = room }) ≡ true = day_sound s fits.step started in
    record {
      sound = sound;
      messages = fits.messages;
      stops = fits.stops;
      room = all;
      within = record { accounts = (sound_parts (record (day_in s) { room = room }) sound).few_accounts; systems = few_systems (record (day_in s) { room = room }) sound };
    }

pub new_day : (s : SoFar) (day : Day) (room : Room) → IsOfSetup s → s.started ≡ true → HasAllRoom room → day ≡ record (day_in s) { room = room } → IsNew day
new_day s day room fits started all is = subst IsNew (sym is) (new_in s room fits started all)

setup_alone : (day : Day) → IsNew day → setup day ≡ day
setup_alone day new = λ i. record day { messages = sym new.messages i; stops = sym new.stops i }

all_messages : (day : Day) → IsNew day → MAX_MESSAGES ≡ messages_left day
all_messages day new =
    let none : length day.messages ≡ 0 = ap (length {A = Message}) new.messages in
    let most = new.room.0 in
    omega (arith, none, most)

all_entries : (day : Day) → IsNew day → MAX_ENTRIES_OF_DAY ≡ entries_left day
all_entries day new =
    let none : entries_of_all day ≡ 0 = (λ i. entries_of_all (record day { messages = new.messages i })) in
    let most = new.room.1 in
    omega (arith, none, most)

pub left_room : (day : Day) (found : Found) (tables : BatchTables) → IsNew day → of_book.HasRoom MAX_MESSAGES MAX_ENTRIES_OF_DAY day found tables → HasRoomLeft day found tables
left_room day found tables new room =
    subst (λ (k : ℕ). of_book.HasRoom k (entries_left day) day found tables) (all_messages day new)
    (subst (λ (k : ℕ). of_book.HasRoom MAX_MESSAGES k day found tables) (all_entries day new) room)

-- ---- its floor, and what is told

nothing_live : (day : Day) (J : History) → came_in day ≡ 0 → J ≡ [] → J ≡ live day (came_in day) []
unfolding live
nothing_live day J none empty = empty ∙ (λ i. live day (sym none i) [])

none_came : (day : Day) → IsNew day → came_in day ≡ 0
none_came day new =
    let messages : length day.messages ≡ 0 = ap (length {A = Message}) new.messages in
    let stops : length day.stops ≡ 0 = ap (length {A = ℕ}) new.stops in
    omega (arith, messages, stops)

pub new_told : (day : Day) (rooms : Rooms) (accounts : List AccountRecord) (till : List ℕ) → IsNew day → AreRooms rooms → accounts ≡ day.accounts → till ≡ map (λ (r : AccountRecord). r.opening) accounts
    → HasTold day (record { floor = rooms.floor; till = till; walk = rooms.walk })
new_told day rooms accounts till new are same openings =
    let opened : IsFor day rooms.floor = for_day day MAX_MESSAGES MAX_ENTRIES_OF_DAY rooms.floor (all_messages day new) (all_entries day new) (subst (λ (d : Day). IsOpen d MAX_MESSAGES MAX_ENTRIES_OF_DAY rooms.floor) (setup_alone day new) (are.opened day new.within)) in
    record {
      made = record {
        lines = nothing_live day rooms.floor.journal.history (none_came day new) are.empty;
        at_work = opens day accounts till rooms.floor same openings are.empty opened;
      };
      stands = subst (λ (J : History). Stands day J rooms.walk) (sym are.empty) (subst (λ (d : Day). Stands d [] rooms.walk) (setup_alone day new) (are.stands day new.within));
      room = subst (λ (k : ℕ). HasRoom k (entries_left day) rooms.walk.facts) (all_messages day new) (subst (λ (k : ℕ). HasRoom MAX_MESSAGES k rooms.walk.facts) (all_entries day new) are.told);
    }

-- ---- the first record after the setup

pub late_either : (begun late : Bool) → late ≡ true → (begun || late) ≡ true
late_either true late e = refl
late_either false late e = e

pub begun_either : (begun late : Bool) → begun ≡ true → (begun || late) ≡ true
begun_either true late e = refl
begun_either false late e = cc e

-- ---- the end of a day of its setup alone

-- END was accepted, and so DAY was
started_early : (records : List Fields) (s : SoFar) → IsSetup (heard records) s → has_end (heard records) ≡ true → s.started ≡ true
unfolding so_far_of
started_early records s early ended = ap (λ (x : SoFar). x.started) early.so_far ∙ ended_started records ended

pub ready_at_end : (stage : Stage) (s : Setup) (rooms : Rooms) (records : List Fields) → stage ≡ stages.Early s rooms → IsAt stage records → HasEnd records → IsReady stage records
ready_at_end stage s rooms records is at last =
    let early : IsEarly records s rooms = subst (λ (x : Stage). IsAt x records) is at in
    subst (λ (x : Stage). IsReady x records) (sym is) (early, started_early records s.so_far early.heard last.ended)
