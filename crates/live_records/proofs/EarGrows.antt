-- What comes to a day by what is said of a record; that the day has begun after it, and that then no record ends the run.
use Rattle.std.proofs.Common.{◌≡◌, ◌∙◌, inl, inr, Bool, true, false, [], Option, Some, None, refl, sym, ap, subst}
use Rattle.std.specs.Prelude.{◌&&◌, ◌||◌, if◌then◌else◌, is_some, option_map}
use Rattle.batch_records.specs.DayRecord.{Day}
use Rattle.batch_records.specs.Flat.{has_entries, with_entries}
use Rattle.batch_records.specs.Growing.{with_record}
use Rattle.batch_records.specs.Made.{is_entry, is_late}
use Rattle.batch_records.specs.Records.{Fields}
use Rattle.batch_records.specs.Step.{with_entry}
use Rattle.batch_records.specs.declared.day.DayCode.{DayCode}
use Rattle.batch_records.specs.declared.day.Message.{Message}
use Rattle.batch_records.specs.declared.day.MessageRecord.{MessageRecord}
use Rattle.batch_records.specs.declared.tally.Piece.{Piece}
use Rattle.batch_records.specs.declared.tally.Piece.TheVariants as pieces
use Rattle.live_records.specs.Ears.{AreSpoken, GrowsBy, Hears, Spoken, closed, counting, ends_run, listening, unless_open, with_piece}
use Rattle.live_records.specs.OpenRecord.{has_said, is_whole, with_open}
use Rattle.live_records.specs.declared.ear.Ear.{Ear}
use Rattle.live_records.specs.declared.ear.Outcome.{Outcome}
use Rattle.live_records.specs.declared.ear.Outcome.TheVariants as outcomes
use Rattle.live_records.proofs.HearingFacts.{entry_begun}

-- what is said of a batch that is open, or isn't, and of one that has as many entries as it says, or hasn't
abbrev opening : Option Message → Ear → Day → Spoken
opening o ear day = if is_whole o then record { ear = closed ear; day = with_open o day; said = outcomes.Takes } else record { ear = ear; day = day; said = outcomes.Nothing }

abbrev opening_some : Bool → Message → Ear → Day → Spoken
opening_some b m ear day = if b then record { ear = closed ear; day = with_open (Some m) day; said = outcomes.Takes } else record { ear = ear; day = day; said = outcomes.Nothing }

-- what is said of a message that is a batch, or isn't
abbrev coming_by : Bool → MessageRecord → Ear → Day → Spoken
coming_by b m ear day =
    if b then unless_open (record ear { coming = record ear.coming { batch = Some (with_entries m []) } }) day
    else record { ear = record ear { before = ear.tally }; day = with_record m day; said = outcomes.Takes }

-- ---- the day grows

some_grows : (b : Bool) (m : Message) (ear : Ear) (day : Day) → GrowsBy (opening_some b m ear day).said day (opening_some b m ear day).day
some_grows true m ear day = (m, refl)
some_grows false m ear day = refl

opening_grows : (o : Option Message) (ear : Ear) (day : Day) → GrowsBy (opening o ear day).said day (opening o ear day).day
opening_grows None ear day = refl
opening_grows (Some m) ear day = some_grows (has_said m.body) m ear day

open_grows : (ear : Ear) (day : Day) → GrowsBy (unless_open ear day).said day (unless_open ear day).day
open_grows ear day = opening_grows ear.coming.batch ear day

message_grows : (b : Bool) (m : MessageRecord) (ear : Ear) (day : Day) → GrowsBy (coming_by b m ear day).said day (coming_by b m ear day).day
message_grows true m ear day = open_grows (record ear { coming = record ear.coming { batch = Some (with_entries m []) } }) day
message_grows false m ear day = (with_entries m [], refl)

piece_grows : (piece : Piece) (ear : Ear) (day : Day) → GrowsBy (with_piece piece ear day).said day (with_piece piece ear day).day
piece_grows (pieces.Message m) ear day = message_grows (has_entries m.body) m ear day
piece_grows (pieces.Entry e) ear day = open_grows (record ear { coming = record ear.coming { batch = option_map (with_entry e) ear.coming.batch } }) day
piece_grows (pieces.Stop time) ear day = (time, refl)
piece_grows pieces.End ear day = refl

refusal_grows : (b : Bool) (c : DayCode) (day : Day) → GrowsBy (if b then outcomes.Refuses c else outcomes.Breaks c) day day
refusal_grows true c day = refl
refusal_grows false c day = refl

spoken_grows : (new : Ear) (day now : Day) (said : Outcome) (x : Spoken) → AreSpoken new now said x → GrowsBy x.said day x.day → GrowsBy said day now
spoken_grows new day now said x are g = subst (λ (y : Outcome). GrowsBy y day now) (sym are.2) (subst (λ (y : Day). GrowsBy x.said day y) (sym are.1) g)

pub hears_grow : (row : Fields) (ear new : Ear) (day now : Day) (said : Outcome) → Hears row ear day said new now → GrowsBy said day now
hears_grow row ear new day now said heard = elim heard [
  | inl over ↦ spoken_grows new day now said _ over.1 refl
  | inr other ↦ elim other [
    | inl adds ↦ spoken_grows new day now said _ adds.2.2 (piece_grows adds.2.0 (counting adds.2.0 (listening ear)) day)
    | inr drops ↦ spoken_grows new day now said _ drops.1.2 (refusal_grows ear.begun drops.1.0 day)
  ]
]

-- with an open batch
pub some_opened : (o : Option Message) (day : Day) → is_some o ≡ true → GrowsBy outcomes.Takes day (with_open o day)
some_opened None day e = cc e
some_opened (Some m) day e = (m, refl)

-- ---- the day has begun

begun_by : (b : Bool) (m : Message) (ear : Ear) (day : Day) → (opening_some b m ear day).ear.begun ≡ ear.begun
begun_by true m ear day = refl
begun_by false m ear day = refl

opening_begun : (o : Option Message) (ear : Ear) (day : Day) → (opening o ear day).ear.begun ≡ ear.begun
opening_begun None ear day = refl
opening_begun (Some m) ear day = begun_by (has_said m.body) m ear day

open_begun : (ear : Ear) (day : Day) → (unless_open ear day).ear.begun ≡ ear.begun
open_begun ear day = opening_begun ear.coming.batch ear day

message_begun : (b : Bool) (m : MessageRecord) (ear : Ear) (day : Day) → (coming_by b m ear day).ear.begun ≡ ear.begun
message_begun true m ear day = open_begun (record ear { coming = record ear.coming { batch = Some (with_entries m []) } }) day
message_begun false m ear day = refl

piece_begun : (piece : Piece) (ear : Ear) (day : Day) → (with_piece piece ear day).ear.begun ≡ ear.begun
piece_begun (pieces.Message m) ear day = message_begun (has_entries m.body) m ear day
piece_begun (pieces.Entry e) ear day = open_begun (record ear { coming = record ear.coming { batch = option_map (with_entry e) ear.coming.batch } }) day
piece_begun (pieces.Stop time) ear day = refl
piece_begun pieces.End ear day = refl

and_last : (x y : Bool) → (x && y) ≡ true → y ≡ true
and_last true y e = e
and_last false y e = cc e

refusal_begun : (b : Bool) (c : DayCode) → ends_run (if b then outcomes.Refuses c else outcomes.Breaks c) ≡ false → b ≡ true
refusal_begun true c e = refl
refusal_begun false c e = cc e

pub hears_begun : (row : Fields) (ear new : Ear) (day now : Day) (said : Outcome) → (ear.begun || is_late row) ≡ true → Hears row ear day said new now → ends_run said ≡ false → new.begun ≡ true
hears_begun row ear new day now said late heard goes = elim heard [
  | inl over ↦ ap (λ (x : Ear). x.begun) over.1.0 ∙ entry_begun ear.begun row late (and_last ear.passing (is_entry row) over.0)
  | inr other ↦ elim other [
    | inl adds ↦ ap (λ (x : Ear). x.begun) adds.2.2.0 ∙ piece_begun adds.2.0 (counting adds.2.0 (listening ear)) day
    | inr drops ↦ ap (λ (x : Ear). x.begun) drops.1.2.0 ∙ refusal_begun ear.begun drops.1.0 (ap ends_run (sym drops.1.2.2) ∙ goes)
  ]
]

-- ---- none ends the run once the day has begun

goes_by : (b : Bool) (m : Message) (ear : Ear) (day : Day) → ends_run (opening_some b m ear day).said ≡ false
goes_by true m ear day = refl
goes_by false m ear day = refl

opening_goes : (o : Option Message) (ear : Ear) (day : Day) → ends_run (opening o ear day).said ≡ false
opening_goes None ear day = refl
opening_goes (Some m) ear day = goes_by (has_said m.body) m ear day

open_goes : (ear : Ear) (day : Day) → ends_run (unless_open ear day).said ≡ false
open_goes ear day = opening_goes ear.coming.batch ear day

message_goes : (b : Bool) (m : MessageRecord) (ear : Ear) (day : Day) → ends_run (coming_by b m ear day).said ≡ false
message_goes true m ear day = open_goes (record ear { coming = record ear.coming { batch = Some (with_entries m []) } }) day
message_goes false m ear day = refl

piece_goes : (piece : Piece) (ear : Ear) (day : Day) → ends_run (with_piece piece ear day).said ≡ false
piece_goes (pieces.Message m) ear day = message_goes (has_entries m.body) m ear day
piece_goes (pieces.Entry e) ear day = open_goes (record ear { coming = record ear.coming { batch = option_map (with_entry e) ear.coming.batch } }) day
piece_goes (pieces.Stop time) ear day = refl
piece_goes pieces.End ear day = refl

refusal_goes : (b : Bool) (c : DayCode) → b ≡ true → ends_run (if b then outcomes.Refuses c else outcomes.Breaks c) ≡ false
refusal_goes true c e = refl
refusal_goes false c e = cc e

pub hears_goes : (row : Fields) (ear new : Ear) (day now : Day) (said : Outcome) → Hears row ear day said new now → ear.begun ≡ true → ends_run said ≡ false
hears_goes row ear new day now said heard begun = elim heard [
  | inl over ↦ ap ends_run over.1.2
  | inr other ↦ elim other [
    | inl adds ↦ ap ends_run adds.2.2.2 ∙ piece_goes adds.2.0 (counting adds.2.0 (listening ear)) day
    | inr drops ↦ ap ends_run drops.1.2.2 ∙ refusal_goes ear.begun drops.1.0 begun
  ]
]
