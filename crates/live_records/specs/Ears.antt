-- What a reader of a live day keeps of the records after its setup, and what it says of each that comes.
use Rattle.std.specs.Prelude.{ℕ, ◌+◌, ◌≤◌, ◌≡◌, ◌⊎◌, ◌&&◌, ◌||◌, Bool, true, false, if◌then◌else◌, List, [], ◌∷◌, ◌++◌, length, Option, Some, None, is_some, option_map}
use Rattle.std.specs.List.{list_any}
use Rattle.cash_amounts.specs.declared.limits.TheConstants.{MAX_ENTRIES, MAX_ENTRIES_OF_DAY, MAX_MESSAGES}
use Rattle.period_calendar.specs.declared.time.TheConstants.{MIDNIGHT}
use Rattle.batch_records.specs.CountText.{count_in}
use Rattle.batch_records.specs.DayRecord.{Day, Room}
use Rattle.batch_records.specs.Flat.{has_entries, with_entries}
use Rattle.batch_records.specs.Growing.{entries_of, with_record, with_stop}
use Rattle.batch_records.specs.Made.{day_made, is_batch, is_day, is_entry, version_of}
use Rattle.live_records.specs.OpenRecord.{entries_open, is_whole, with_open}
use Rattle.batch_records.specs.Records.{Fields}
use Rattle.batch_records.specs.Rooms.{in_room}
use Rattle.batch_records.specs.Step.{is_batch_body, with_entry}
use Rattle.batch_records.specs.Tallies.{IsSmall, States, late_code, tally_after, tally_of}
use Rattle.batch_records.specs.Versions.{count_field}
use Rattle.batch_records.specs.declared.day.Body.{Body}
use Rattle.batch_records.specs.declared.day.Body.TheVariants as bodies
use Rattle.batch_records.specs.declared.day.DayCode.{DayCode}
use Rattle.batch_records.specs.declared.day.Message.{Message}
use Rattle.batch_records.specs.declared.tally.Piece.{Piece}
use Rattle.batch_records.specs.declared.tally.Piece.TheVariants as pieces
use Rattle.batch_records.specs.declared.tally.Tally.{Tally}
use Rattle.live_records.specs.Heard.{Call, Takes, Stops, Refuses, Breaks, Heard, Numbered, day_of, fields_of, hear, judged_with}
use Rattle.live_records.specs.Kept.{KeptIn}
use Rattle.live_records.specs.declared.ear.Ear.{Ear}
use Rattle.live_records.specs.declared.ear.Outcome.{Outcome}
use Rattle.live_records.specs.declared.ear.Outcome.TheVariants as outcomes

-- ---- what it keeps of the records so far

-- a batch that says that it has so many entries, and has so many
abbrev pub Says : Body → ℕ → ℕ → Type 0
Says (bodies.Batch procedure info from till count sum entries) said so_far = (count ≡ said) × (length entries ≡ so_far)
Says _ said so_far = ⊥

-- the message that the records of an open batch make, in a day of this version
abbrev pub IsComing : ℕ → List Numbered → Option Message → Type 0
IsComing version [] None = Unit {0}
IsComing version [] (Some m) = ⊥
IsComing version (x ∷ entries) None = ⊥
IsComing version (x ∷ entries) (Some m) = Says m.body (count_in (count_field version x.1)) (length entries)

-- the same without the open batch
abbrev pub alone : Heard → Heard
alone h = record h { batch = [] }

-- A reader has heard these records, DAY among them, and this is the accepted day, but for its room. It knows the numbers of the accepted
-- records and those of the open batch, and those of the accepted ones alone.
pub record IsHeard (h : Heard) (ear : Ear) (day : Day) : Type 0 where
  pub kept : KeptIn h
  pub going : h.broken ≡ false
  pub started : list_any is_day (fields_of h.accepted) ≡ true
  pub tally : ear.tally ≡ tally_of (judged_with h)
  pub before : ear.before ≡ tally_of (judged_with (alone h))
  pub accepted : day ≡ in_room day.room (day_of h)
  pub coming : IsComing (version_of (fields_of h.accepted)) h.batch ear.coming.batch
  pub whole : with_open ear.coming.batch (day_of h) ≡ day_made (fields_of (h.accepted ++ h.batch))
  pub begun : ear.begun ≡ h.begun
  pub passing : ear.passing ≡ h.passing

-- ---- what it says of the record that comes

-- what a record of this number calls for by what is said of it
abbrev pub calls_said : ℕ → Outcome → List Call
calls_said n outcomes.Nothing = []
calls_said n outcomes.Takes = Takes ∷ []
calls_said n outcomes.Stops = Stops ∷ []
calls_said n (outcomes.Refuses c) = Refuses n c ∷ []
calls_said n (outcomes.Breaks c) = Breaks n c ∷ []

-- none is heard after it
abbrev pub ends_run : Outcome → Bool
ends_run (outcomes.Breaks c) = true
ends_run _ = false

-- what is said of this record is what it calls for, and with it the reader has heard as much as is to be heard, unless it ends the run
pub record IsTold (h : Heard) (r : Fields) (said : Outcome) (ear : Ear) (day : Day) : Type 0 where
  pub calls : (hear h r).calls ≡ h.calls ++ calls_said (h.count + 1) said
  pub ends : (hear h r).broken ≡ ends_run said
  pub heard : ends_run said ≡ false → IsHeard (hear h r) ear day

-- what has come to a day by what is said: where a message is taken, one more; where the clock moves, one stop more; else nothing
abbrev pub GrowsBy : Outcome → Day → Day → Type 0
GrowsBy outcomes.Takes old new = (m : Message) × (new ≡ with_open (Some m) old)
GrowsBy outcomes.Stops old new = (time : ℕ) × (new ≡ with_stop time old)
GrowsBy _ old new = new ≡ old

-- ---- its steps

-- a reader and its day, with what is said
pub record Spoken : Type 0 where
  pub ear : Ear
  pub day : Day
  pub said : Outcome

abbrev pub AreSpoken : Ear → Day → Outcome → Spoken → Type 0
AreSpoken ear day said x = (ear ≡ x.ear) × (day ≡ x.day) × (said ≡ x.said)

-- the open batch has come to the day
abbrev pub closed : Ear → Ear
closed ear = record ear { tally = record ear.tally { in_batch = false }; before = record ear.tally { in_batch = false }; coming = record ear.coming { batch = None } }

-- it does so once it has as many entries as it says
abbrev pub unless_open : Ear → Day → Spoken
unless_open ear day =
    if is_whole ear.coming.batch then record { ear = closed ear; day = with_open ear.coming.batch day; said = outcomes.Takes } else record { ear = ear; day = day; said = outcomes.Nothing }

-- the tally counts a piece already
abbrev pub with_piece : Piece → Ear → Day → Spoken
with_piece (pieces.Message m) ear day =
    if has_entries m.body then unless_open (record ear { coming = record ear.coming { batch = Some (with_entries m []) } }) day
    else record { ear = record ear { before = ear.tally }; day = with_record m day; said = outcomes.Takes }
with_piece (pieces.Entry e) ear day = unless_open (record ear { coming = record ear.coming { batch = option_map (with_entry e) ear.coming.batch } }) day
with_piece (pieces.Stop time) ear day = record { ear = record ear { before = ear.tally }; day = with_stop time day; said = outcomes.Stops }
with_piece pieces.End ear day = record { ear = record ear { before = ear.tally }; day = day; said = outcomes.Nothing }

-- a record with a code is refused, and with it the batch that it is an entry of; before the day has begun it ends the run
abbrev pub refused : Bool → Ear → Ear
refused batch ear = record ear { tally = ear.before; coming = record ear.coming { batch = None }; passing = batch || is_some ear.coming.batch }

abbrev pub without_batch : Bool → DayCode → Ear → Day → Spoken
without_batch batch c ear day = record { ear = refused batch ear; day = day; said = if ear.begun then outcomes.Refuses c else outcomes.Breaks c }

-- nothing is passed over any more
abbrev pub listening : Ear → Ear
listening ear = record ear { passing = false }

-- a piece is counted, and the day has begun
abbrev pub counting : Piece → Ear → Ear
counting piece ear = record ear { tally = tally_after piece ear.tally; begun = true }

-- the record is passed over; or it has no code, and adds a piece; or it has one
abbrev pub Passes : Fields → Ear → Day → Outcome → Ear → Day → Type 0
Passes row ear day said new now = ((ear.passing && is_entry row) ≡ true) × AreSpoken new now said (record { ear = ear; day = day; said = outcomes.Nothing })

abbrev pub Adds : Fields → Ear → Day → Outcome → Ear → Day → Type 0
Adds row ear day said new now =
    ((ear.passing && is_entry row) ≡ false) × (late_code ear.tally row ≡ None) × ((piece : Piece) × States ear.tally row piece × AreSpoken new now said (with_piece piece (counting piece (listening ear)) day))

abbrev pub Drops : Fields → Ear → Day → Outcome → Ear → Day → Type 0
Drops row ear day said new now = ((ear.passing && is_entry row) ≡ false) × ((c : DayCode) × (late_code ear.tally row ≡ Some c) × AreSpoken new now said (without_batch (is_batch row) c (listening ear) day))

abbrev pub Hears : Fields → Ear → Day → Outcome → Ear → Day → Type 0
Hears row ear day said new now = Passes row ear day said new now ⊎ Adds row ear day said new now ⊎ Drops row ear day said new now

-- ---- room

-- a day has room for all that its limits let come
abbrev pub HasAllRoom : Room → Type 0
HasAllRoom room = (MAX_MESSAGES ≤ room.messages) × (MAX_ENTRIES_OF_DAY ≤ room.entries) × (MIDNIGHT ≤ room.stops)

-- one, where a batch is open
abbrev pub count_open : Option Message → ℕ
count_open None = 0
count_open (Some m) = 1

abbrev pub is_batch_open : Option Message → Bool
is_batch_open None = false
is_batch_open (Some m) = is_batch_body m.body

-- the tally has so many messages, entries and stops more than the day
pub record Counts (m e s : ℕ) (tally : Tally) (day : Day) : Type 0 where
  pub small : IsSmall tally
  pub messages : tally.messages ≡ length day.messages + m
  pub entries : tally.entries ≡ entries_of day.messages + e
  pub stops : tally.stops ≡ length day.stops + s
  pub last : e ≤ tally.last_entries

pub record FitsWith (m e s : ℕ) (ear : Ear) (day : Day) : Type 0 where
  pub all : Counts m e s ear.tally day
  pub alone : Counts 0 0 0 ear.before day
  pub shut : ear.before.in_batch ≡ false
  pub room : HasAllRoom day.room
  pub most : MAX_ENTRIES ≤ ear.coming.most

abbrev pub Fits : Ear → Day → Type 0
Fits ear day = FitsWith (count_open ear.coming.batch) (length (entries_open ear.coming.batch)) 0 ear day × (ear.tally.in_batch ≡ true → is_batch_open ear.coming.batch ≡ true)

-- so does a piece that is counted already
abbrev pub FitsPiece : Piece → Ear → Day → Type 0
FitsPiece (pieces.Message m) ear day = (ear.coming.batch ≡ None) × (ear.tally.in_batch ≡ has_entries m.body) × FitsWith 1 0 0 ear day
FitsPiece (pieces.Entry e) ear day = (is_batch_open ear.coming.batch ≡ true) × FitsWith (count_open ear.coming.batch) (length (entries_open ear.coming.batch) + 1) 0 ear day
FitsPiece (pieces.Stop time) ear day = (ear.coming.batch ≡ None) × (ear.tally.in_batch ≡ false) × FitsWith 0 0 1 ear day
FitsPiece pieces.End ear day = (ear.coming.batch ≡ None) × (ear.tally.in_batch ≡ false) × FitsWith 0 0 0 ear day
