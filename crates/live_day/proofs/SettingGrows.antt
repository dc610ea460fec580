-- What holds of a setting whose day has grown by a record that was heard.
use Rattle.std.proofs.Common.{◌≡◌, ◌∙◌, ◌+◌, ◌<◌, ◌≤◌, ◌++◌, ℕ, suc, true, false, List, [], ◌∷◌, Option, Some, length, refl, sym, ap, subst, arith}
use Rattle.std.specs.Prelude.{min, slice_get, sum_by}
use Rattle.std.specs.Option.{option_map_or}
use Rattle.std.proofs.lemmas.List.{length-append}
use Rattle.std.proofs.lemmas.List.Sums.{sum_by-append, sum_by-cons}
use Rattle.cash_amounts.specs.declared.limits.TheConstants.{MAX_ENTRIES_OF_DAY, MAX_MESSAGES}
use Rattle.batch_records.specs.DayRecord.{Day}
use Rattle.batch_records.specs.Growing.{with_stop}
use Rattle.batch_records.specs.Records.{Fields}
use Rattle.batch_records.specs.Sound.{entries_in, is_sound}
use Rattle.batch_records.specs.declared.day.Message.{Message}
use Rattle.live_records.specs.Ears.{Fits, GrowsBy, IsTold}
use Rattle.live_records.specs.Heard.{Heard, hear}
use Rattle.live_records.specs.declared.ear.Ear.{Ear}
use Rattle.live_records.specs.declared.ear.Outcome.{Outcome}
use Rattle.live_records.specs.declared.ear.Outcome.TheVariants as outcomes
use Rattle.machine.specs.Orders.Bounds.{entries_of_all}
use Rattle.machine.specs.Records.Messages.{entries}
use Rattle.rule_book.specs.Coming.{last_entries}
use Rattle.rule_book.specs.Repeated.{with_one}
use Rattle.rule_book.specs.Room.{FoundHasRoom, TablesHaveRoom}
use Rattle.rule_book.specs.declared.batch_tables.BatchTables.{BatchTables}
use Rattle.rule_book.specs.declared.found.Found.{Found}
use Rattle.rule_book.proofs.ComingFacts.{found_less, room_with_stop, tables_less}
use Rattle.settle_floor.specs.Floors.{entries_left, messages_left}
use Rattle.live_day.specs.Hearing.{HasRoomLeft, takes}
use Rattle.live_day.proofs.HeardFacts.{sound_heard}

-- ---- a message more

pub sum_more : (ms : List Message) (m : Message) → sum_by (λ (x : Message). length (entries_in x.body)) (ms ++ m ∷ []) ≡ sum_by (λ (x : Message). length (entries_in x.body)) ms + length (entries_in m.body)
sum_more ms m =
    let both = sum_by-append (λ (x : Message). length (entries_in x.body)) ms (m ∷ []) in
    let one = sum_by-cons (λ (x : Message). length (entries_in x.body)) m [] in
    omega (arith, both, one)

last_there : (before : List Message) (m : Message) → slice_get (before ++ m ∷ []) (length before) ≡ Some m
last_there [] m = refl
last_there (x ∷ before) m = last_there before m

-- a day that a reader's numbers fit had room for its last message and that one's entries
module _ (ear : Ear) (before day : Day) (m : Message) (longer : day ≡ with_one before m) (f : Fits ear day) where
  pub message_fits : length before.messages < min before.room.messages MAX_MESSAGES
  message_fits =
      let g : Fits ear (with_one before m) = subst (Fits ear) longer f in
      let count = length-append before.messages (m ∷ []) in
      omega (arith, count, g.0.alone.messages, g.0.alone.small.messages, g.0.room.0)

  pub entries_fit : entries_of_all before + length (entries_in m.body) ≤ min before.room.entries MAX_ENTRIES_OF_DAY
  entries_fit =
      let g : Fits ear (with_one before m) = subst (Fits ear) longer f in
      let sum = sum_more before.messages m in
      omega (arith, sum, g.0.alone.entries, g.0.alone.small.entries, g.0.room.1)

-- what a day says of its last message is what that brings
pub last_brings : (before day : Day) (m : Message) → day ≡ with_one before m → last_entries day ≡ length (entries_in m.body)
last_brings before day m longer =
    let count : length (before.messages ++ m ∷ []) ≡ suc (length before.messages) = let long = length-append before.messages (m ∷ []) in omega (arith, long) in
    ap last_entries longer
    ∙ ap (λ (n : ℕ). length (entries (with_one before m) n)) count
    ∙ ap (λ (o : Option Message). length (option_map_or (λ (x : Message). entries_in x.body) o [])) (last_there before.messages m)

module _ (ear : Ear) (before day : Day) (m : Message) (longer : day ≡ with_one before m) (f : Fits ear day) where
  messages_then : messages_left day + 1 ≡ messages_left before
  messages_then =
      let low = message_fits ear before day m longer f in
      let count = length-append before.messages (m ∷ []) in
      ap (λ (d : Day). messages_left d + 1) longer ∙ omega (arith, low, count)

  entries_then : entries_left day + last_entries day ≡ entries_left before
  entries_then =
      let few = entries_fit ear before day m longer f in
      let sum = sum_more before.messages m in
      let brings = last_brings before day m longer in
      (λ i. entries_left (longer i) + brings i) ∙ omega (arith, few, sum)

  -- there is room to find out about that message
  pub found_takes : (found : Found) (tables : BatchTables) → HasRoomLeft before found tables → FoundHasRoom 1 (last_entries day) found
  found_takes found tables room =
      let messages = messages_then in
      let entries = entries_then in
      found_less (messages_left before) (entries_left before) 1 (last_entries day) found (omega (arith, messages)) (omega (arith, entries)) room.found_room

  pub tables_take : (found : Found) (tables : BatchTables) → HasRoomLeft before found tables → TablesHaveRoom (last_entries day) tables
  tables_take found tables room =
      let entries = entries_then in
      tables_less (entries_left before) (last_entries day) tables (omega (arith, entries)) room.tables_room

  -- and then for all that may come after it
  pub room_taken : (found new : Found) (tables later : BatchTables) → HasRoomLeft before found tables
      → ((messages more : ℕ) → FoundHasRoom (messages + 1) (more + last_entries day) found → FoundHasRoom messages more new)
      → ((more : ℕ) → TablesHaveRoom (more + last_entries day) tables → TablesHaveRoom more later)
      → HasRoomLeft day new later
  room_taken found new tables later room finds enters =
      let low = message_fits ear before day m longer f in
      let few = entries_fit ear before day m longer f in
      let count : length day.messages ≡ length before.messages + 1 = ap (λ (d : Day). length d.messages) longer ∙ length-append before.messages (m ∷ []) in
      let sum : entries_of_all day ≡ entries_of_all before + length (entries_in m.body) = ap entries_of_all longer ∙ sum_more before.messages m in
      let messages : day.room.messages ≡ before.room.messages = ap (λ (d : Day). d.room.messages) longer in
      let entries : day.room.entries ≡ before.room.entries = ap (λ (d : Day). d.room.entries) longer in
      record {
        day_room = record {
          messages_fit = omega (arith, low, count, messages);
          entries_fit = omega (arith, few, sum, entries);
        };
        found_room = finds (messages_left day) (entries_left day)
            (subst (λ (n : ℕ). FoundHasRoom n (entries_left day + last_entries day) found) (sym messages_then)
            (subst (λ (n : ℕ). FoundHasRoom (messages_left before) n found) (sym entries_then) room.found_room));
        tables_room = enters (entries_left day) (subst (λ (n : ℕ). TablesHaveRoom n tables) (sym entries_then) room.tables_room);
      }

-- ---- by what is said of a record

-- where a message is taken the day is longer by it
pub taken_one : (said : Outcome) (before day : Day) → takes said ≡ true → GrowsBy said before day → (m : Message) × (day ≡ with_one before m)
taken_one outcomes.Nothing before day e grows = cc e
taken_one outcomes.Takes before day e grows = grows
taken_one outcomes.Stops before day e grows = cc e
taken_one (outcomes.Refuses c) before day e grows = cc e
taken_one (outcomes.Breaks c) before day e grows = cc e

-- else it is the same, or has a stop more
pub unless_taken : (P : Day → Type 0) (said : Outcome) (before day : Day) → ((t : ℕ) → P (with_stop t before)) → P before → takes said ≡ false → GrowsBy said before day → P day
unless_taken P outcomes.Nothing before day stops same e grows = subst P (sym grows) same
unless_taken P outcomes.Takes before day stops same e grows = cc e
unless_taken P outcomes.Stops before day stops same e grows = subst P (sym grows.1) (stops grows.0)
unless_taken P (outcomes.Refuses c) before day stops same e grows = subst P (sym grows) same
unless_taken P (outcomes.Breaks c) before day stops same e grows = subst P (sym grows) same

pub room_unless_taken : (said : Outcome) (before day : Day) (found : Found) (tables : BatchTables) → takes said ≡ false → GrowsBy said before day → HasRoomLeft before found tables → HasRoomLeft day found tables
room_unless_taken said before day found tables e grows room =
    unless_taken (λ (d : Day). HasRoomLeft d found tables) said before day (λ t. room_with_stop (messages_left before) (entries_left before) before t found tables room) room e grows

-- ---- the day is sound

pub sound_then : (h : Heard) (r : Fields) (said : Outcome) (ear : Ear) (before day : Day) → is_sound before ≡ true → IsTold h r said ear day → GrowsBy said before day → is_sound day ≡ true
sound_then h r outcomes.Nothing ear before day sound told grows = sound_heard (hear h r) ear day (told.heard refl)
sound_then h r outcomes.Takes ear before day sound told grows = sound_heard (hear h r) ear day (told.heard refl)
sound_then h r outcomes.Stops ear before day sound told grows = sound_heard (hear h r) ear day (told.heard refl)
sound_then h r (outcomes.Refuses c) ear before day sound told grows = sound_heard (hear h r) ear day (told.heard refl)
sound_then h r (outcomes.Breaks c) ear before day sound told grows = subst (λ (d : Day). is_sound d ≡ true) (sym grows) sound
