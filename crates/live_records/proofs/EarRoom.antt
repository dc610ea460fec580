-- A day has room for what a reader puts into it.
use Rattle.std.proofs.Common.{◌≡◌, ◌∙◌, ◌+◌, ◌<◌, ◌≤◌, ◌++◌, ℕ, Bool, true, false, List, [], ◌∷◌, Option, Some, None, length, length-append, refl, sym, ap, subst, arith}
use Rattle.std.specs.Prelude.{◌||◌, is_some, option_map, not}
use Rattle.std.proofs.lemmas.List.Sums.{sum_by-append, sum_by-cons}
use Rattle.cash_amounts.specs.declared.limits.TheConstants.{MAX_ENTRIES}
use Rattle.batch_records.specs.DayRecord.{Day}
use Rattle.batch_records.specs.Flat.{body_with_entries, has_entries, with_entries}
use Rattle.batch_records.specs.Growing.{entries_of, with_record, with_stop}
use Rattle.batch_records.specs.Kinds.{kind_of}
use Rattle.batch_records.specs.Made.{is_entry}
use Rattle.live_records.specs.OpenRecord.{entries_open, is_whole, with_open}
use Rattle.batch_records.specs.Records.{Fields}
use Rattle.batch_records.specs.Sound.{entries_in}
use Rattle.batch_records.specs.Step.{body_with, is_batch_body, with_entry}
use Rattle.batch_records.specs.Tallies.{IsSmall, States, is_misplaced, late_code, tally_after}
use Rattle.batch_records.specs.declared.day.Body.{Body}
use Rattle.batch_records.specs.declared.day.Body.TheVariants as bodies
use Rattle.batch_records.specs.declared.day.Entry.{Entry}
use Rattle.batch_records.specs.declared.day.Message.{Message}
use Rattle.batch_records.specs.declared.day.MessageRecord.{MessageRecord}
use Rattle.batch_records.specs.declared.day.RecordBody.{RecordBody}
use Rattle.batch_records.specs.declared.day.RecordBody.TheVariants as records
use Rattle.batch_records.specs.declared.kinds.RecordKind.TheVariants as record_kinds
use Rattle.batch_records.specs.declared.tally.Piece.{Piece}
use Rattle.batch_records.specs.declared.tally.Piece.TheVariants as pieces
use Rattle.batch_records.specs.declared.tally.Tally.{Tally}
use Rattle.batch_records.proofs.TallyFacts.{late_fine, late_some}
use Rattle.live_records.specs.Ears.{Counts, Fits, FitsPiece, FitsWith, HasAllRoom, closed, count_open, counting, is_batch_open, listening, refused}
use Rattle.live_records.specs.declared.ear.Ear.{Ear}
use Rattle.live_records.proofs.AcceptedFacts.{entry_kind}
use Rattle.live_records.proofs.HearingFacts.{KindIs, kind_is, kind_kept}

-- ---- a batch comes to the day

pub room_for_message : (m e s : ℕ) (ear : Ear) (day : Day) → FitsWith (m + 1) e s ear day → length day.messages < day.room.messages
room_for_message m e s ear day f = omega (arith, f.all.messages, f.all.small.messages, f.room.0)

some_count : (o : Option Message) → is_some o ≡ true → count_open o ≡ 0 + 1
some_count None e = cc e
some_count (Some m) e = refl

pub close_message : (ear : Ear) (day : Day) → Fits ear day → is_some ear.coming.batch ≡ true → length day.messages < day.room.messages
close_message ear day f some =
    room_for_message 0 (length (entries_open ear.coming.batch)) 0 ear day (subst (λ (n : ℕ). FitsWith n (length (entries_open ear.coming.batch)) 0 ear day) (some_count ear.coming.batch some) f.0)

pub close_entries : (ear : Ear) (day : Day) → Fits ear day → entries_of day.messages + length (entries_open ear.coming.batch) ≤ day.room.entries
close_entries ear day f = omega (arith, f.0.all.entries, f.0.all.small.entries, f.0.room.1)

small_shut : (t : Tally) (b : Bool) → IsSmall t → IsSmall (record t { in_batch = b })
small_shut t b k = record { messages = k.messages; entries = k.entries; last_entries = k.last_entries; stops = k.stops; last_stop = k.last_stop }

one_sum : (ms : List Message) (m : Message) → entries_of (ms ++ m ∷ []) ≡ entries_of ms + length (entries_in m.body)
one_sum ms m = sum_by-append (λ (x : Message). length (entries_in x.body)) ms (m ∷ []) ∙ ap (λ (n : ℕ). entries_of ms + n) (single (length (entries_in m.body)) (sum_by-cons (λ (x : Message). length (entries_in x.body)) m []))
  where
    single : (n : ℕ) → entries_of (m ∷ []) ≡ n + 0 → entries_of (m ∷ []) ≡ n
    single n e = omega (arith, e)

counts_more : (t : Tally) (b : Bool) (day : Day) (o : Option Message) → is_some o ≡ true → Counts (count_open o) (length (entries_open o)) 0 t day → Counts 0 0 0 (record t { in_batch = b }) (with_open o day)
counts_more t b day None some k = cc some
counts_more t b day (Some m) some k = record {
  small = small_shut t b k.small;
  messages = omega (arith, k.messages, length-append day.messages (m ∷ []));
  entries = omega (arith, k.entries, one_sum day.messages m);
  stops = k.stops;
  last = omega arith;
}

open_room : (o : Option Message) (day : Day) → HasAllRoom day.room → HasAllRoom (with_open o day).room
open_room None day h = h
open_room (Some m) day h = h

pub close_fits : (ear : Ear) (day : Day) → Fits ear day → is_some ear.coming.batch ≡ true → Fits (closed ear) (with_open ear.coming.batch day)
close_fits ear day f some =
    let counts = counts_more ear.tally false day ear.coming.batch some f.0.all in
    (record { all = counts; alone = counts; shut = refl; room = open_room ear.coming.batch day f.0.room; most = f.0.most }, λ e. cc e)

pub whole_some : (o : Option Message) → is_whole o ≡ true → is_some o ≡ true
whole_some None e = cc e
whole_some (Some m) e = refl

-- ---- a piece comes

none_in : (b : RecordBody) → length (entries_in (body_with_entries b [])) ≡ 0
none_in (records.Batch procedure info from till count sum) = refl
none_in (records.Pay high debit credit amount) = refl
none_in (records.Liquidity debit credit amount) = refl
none_in (records.Object system batch) = refl
none_in (records.Confirm batch answer) = refl
none_in (records.Cycle start) = refl

pub begun_fits : (ear : Ear) (day : Day) (m : MessageRecord) → FitsPiece (pieces.Message m) ear day → has_entries m.body ≡ true → Fits (record ear { coming = record ear.coming { batch = Some (with_entries m []) } }) day
begun_fits ear day m f has = (
  subst (λ (n : ℕ). FitsWith 1 n 0 (record ear { coming = record ear.coming { batch = Some (with_entries m []) } }) day) (sym (none_in m.body))
      (record { all = f.2.all; alone = f.2.alone; shut = f.2.shut; room = f.2.room; most = f.2.most }),
  λ e. kind_kept m.body ∙ has,
)

counts_record : (t : Tally) (day : Day) (m : MessageRecord) → Counts 1 0 0 t day → Counts 0 0 0 t (with_record m day)
counts_record t day m k = record {
  small = k.small;
  messages = omega (arith, k.messages, length-append day.messages (with_entries m [] ∷ []));
  entries = omega (arith, k.entries, one_sum day.messages (with_entries m []), none_in m.body);
  stops = k.stops;
  last = omega arith;
}

none_shut : (o : Option Message) (b : Bool) → b ≡ false → b ≡ true → is_batch_open o ≡ true
none_shut o b e g = cc (e, g)

-- what comes by itself, and no batch is open
pub single_fits : (ear : Ear) (day : Day) → ear.coming.batch ≡ None → ear.tally.in_batch ≡ false → Counts 0 0 0 ear.tally day → HasAllRoom day.room → MAX_ENTRIES ≤ ear.coming.most → Fits (record ear { before = ear.tally }) day
single_fits ear day none shut counts room most =
    subst (λ (o : Option Message). FitsWith (count_open o) (length (entries_open o)) 0 (record ear { before = ear.tally }) day × (ear.tally.in_batch ≡ true → is_batch_open ear.coming.batch ≡ true)) (sym none)
    (record { all = counts; alone = counts; shut = shut; room = room; most = most }, none_shut ear.coming.batch ear.tally.in_batch shut)

pub record_fits : (ear : Ear) (day : Day) (m : MessageRecord) → FitsPiece (pieces.Message m) ear day → has_entries m.body ≡ false → Fits (record ear { before = ear.tally }) (with_record m day)
record_fits ear day m f has = single_fits ear (with_record m day) f.0 (f.1 ∙ has) (counts_record ear.tally day m f.2.all) f.2.room f.2.most

pub entry_room : (ear : Ear) (day : Day) (e : Entry) → FitsPiece (pieces.Entry e) ear day → length (entries_open ear.coming.batch) < ear.coming.most
entry_room ear day e f = omega (arith, f.1.all.last, f.1.all.small.last_entries, f.1.most)

more_entries : (e : Entry) (b : Body) → is_batch_body b ≡ true → length (entries_in (body_with e b)) ≡ length (entries_in b) + 1
more_entries e (bodies.Batch procedure info from till count sum entries) h = length-append entries (e ∷ [])
more_entries e (bodies.Pay high debit credit amount) h = cc h
more_entries e (bodies.Liquidity debit credit amount) h = cc h
more_entries e (bodies.Object system batch) h = cc h
more_entries e (bodies.Confirm batch answer) h = cc h
more_entries e (bodies.Cycle start) h = cc h

still_batch : (e : Entry) (b : Body) → is_batch_body b ≡ true → is_batch_body (body_with e b) ≡ true
still_batch e (bodies.Batch procedure info from till count sum entries) h = refl
still_batch e (bodies.Pay high debit credit amount) h = h
still_batch e (bodies.Liquidity debit credit amount) h = h
still_batch e (bodies.Object system batch) h = h
still_batch e (bodies.Confirm batch answer) h = h
still_batch e (bodies.Cycle start) h = h

entry_length : (e : Entry) (o : Option Message) → is_batch_open o ≡ true → length (entries_open o) + 1 ≡ length (entries_open (option_map (with_entry e) o))
entry_length e None h = cc h
entry_length e (Some m) h = sym (more_entries e m.body h)

entry_open : (e : Entry) (o : Option Message) → is_batch_open o ≡ true → is_batch_open (option_map (with_entry e) o) ≡ true
entry_open e None h = cc h
entry_open e (Some m) h = still_batch e m.body h

entry_count : (e : Entry) (o : Option Message) → count_open o ≡ count_open (option_map (with_entry e) o)
entry_count e None = refl
entry_count e (Some m) = refl

pub entry_fits : (ear : Ear) (day : Day) (e : Entry) → FitsPiece (pieces.Entry e) ear day → Fits (record ear { coming = record ear.coming { batch = option_map (with_entry e) ear.coming.batch } }) day
entry_fits ear day e f =
    let now : Ear = record ear { coming = record ear.coming { batch = option_map (with_entry e) ear.coming.batch } } in
    let fits : FitsWith (count_open ear.coming.batch) (length (entries_open ear.coming.batch) + 1) 0 now day =
    record { all = f.1.all; alone = f.1.alone; shut = f.1.shut; room = f.1.room; most = f.1.most } in (
      subst (λ (n : ℕ). FitsWith (count_open now.coming.batch) n 0 now day) (entry_length e ear.coming.batch f.0)
          (subst (λ (n : ℕ). FitsWith n (length (entries_open ear.coming.batch) + 1) 0 now day) (entry_count e ear.coming.batch) fits),
      λ h. entry_open e ear.coming.batch f.0,
    )

pub stop_room : (ear : Ear) (day : Day) (time : ℕ) → FitsPiece (pieces.Stop time) ear day → length day.stops < day.room.stops
stop_room ear day time f = omega (arith, f.2.all.stops, f.2.all.small.stops, f.2.all.small.last_stop, f.2.room.2)

counts_stop : (t : Tally) (day : Day) (time : ℕ) → Counts 0 0 1 t day → Counts 0 0 0 t (with_stop time day)
counts_stop t day time k = record { small = k.small; messages = k.messages; entries = k.entries; stops = omega (arith, k.stops, length-append day.stops (time ∷ [])); last = omega arith }

pub stop_fits : (ear : Ear) (day : Day) (time : ℕ) → FitsPiece (pieces.Stop time) ear day → Fits (record ear { before = ear.tally }) (with_stop time day)
stop_fits ear day time f = single_fits ear (with_stop time day) f.0 f.1 (counts_stop ear.tally day time f.2.all) f.2.room f.2.most

pub end_fits : (ear : Ear) (day : Day) → FitsPiece pieces.End ear day → Fits (record ear { before = ear.tally }) day
end_fits ear day f = single_fits ear day f.0 f.1 f.2.all f.2.room f.2.most

-- ---- a record comes

shut_counts : (o : Option Message) (s : ℕ) (t : Tally) (day : Day) → o ≡ None → Counts (count_open o) (length (entries_open o)) s t day → Counts 0 0 s t day
shut_counts None s t day none k = k
shut_counts (Some m) s t day none k = cc none

placed : (ended in_batch : Bool) → (ended || not in_batch) ≡ false → in_batch ≡ true
placed true b e = cc e
placed false true e = refl
placed false false e = cc e

entry_placed : (t : Tally) (row : Fields) → is_entry row ≡ true → late_code t row ≡ None → t.in_batch ≡ true
unfolding is_misplaced
entry_placed t row is code =
    let kind = entry_kind row is in
    placed t.ended t.in_batch (late_fine record_kinds.Ent t row (sym (late_some record_kinds.Ent t row kind) ∙ code)).place

pub piece_fits : (ear : Ear) (day : Day) (row : Fields) (piece : Piece) → Fits ear day → (is_entry row ≡ false → ear.coming.batch ≡ None) → late_code ear.tally row ≡ None → States ear.tally row piece → IsSmall (tally_after piece ear.tally)
    → FitsPiece piece (counting piece (listening ear)) day
piece_fits ear day row piece f shut code states small = by piece states small (kind_is (kind_of row) ear.tally row piece refl states)
  where
    alone_counts : is_entry row ≡ false → Counts 0 0 0 ear.tally day
    alone_counts other = shut_counts ear.coming.batch 0 ear.tally day (shut other) f.0.all

    by : (p : Piece) → States ear.tally row p → IsSmall (tally_after p ear.tally) → KindIs row p → FitsPiece p (counting p (listening ear)) day
    by (pieces.Message m) s small kind =
        let k = alone_counts kind.entry in (
          shut kind.entry,
          refl,
          record {
            all = record { small = small; messages = omega (arith, k.messages); entries = k.entries; stops = k.stops; last = omega arith };
            alone = f.0.alone;
            shut = f.0.shut;
            room = f.0.room;
            most = f.0.most;
          },
        )
    by (pieces.Entry e) s small kind =
        let k = f.0.all in (
          f.1 (entry_placed ear.tally row kind.entry code),
          record {
            all = record { small = small; messages = k.messages; entries = omega (arith, k.entries); stops = k.stops; last = omega (arith, k.last) };
            alone = f.0.alone;
            shut = f.0.shut;
            room = f.0.room;
            most = f.0.most;
          },
        )
    by (pieces.Stop time) s small kind =
        let k = alone_counts kind.entry in (
          shut kind.entry,
          refl,
          record {
            all = record { small = small; messages = k.messages; entries = k.entries; stops = omega (arith, k.stops); last = omega arith };
            alone = f.0.alone;
            shut = f.0.shut;
            room = f.0.room;
            most = f.0.most;
          },
        )
    by pieces.End s small kind =
        let k = alone_counts kind.entry in (
          shut kind.entry,
          refl,
          record {
            all = record { small = small; messages = k.messages; entries = k.entries; stops = k.stops; last = omega arith };
            alone = f.0.alone;
            shut = f.0.shut;
            room = f.0.room;
            most = f.0.most;
          },
        )

pub refused_fits : (ear : Ear) (day : Day) (batch : Bool) → Fits ear day → Fits (refused batch ear) day
refused_fits ear day batch f = (record { all = f.0.alone; alone = f.0.alone; shut = f.0.shut; room = f.0.room; most = f.0.most }, none_shut None ear.before.in_batch f.0.shut)

pub listening_fits : (ear : Ear) (day : Day) → Fits ear day → Fits (listening ear) day
listening_fits ear day f = (record { all = f.0.all; alone = f.0.alone; shut = f.0.shut; room = f.0.room; most = f.0.most }, f.1)

-- ---- whether a batch ends before a record

pub none_left : (entry : Bool) (o : Option Message) → (entry || not (is_some o)) ≡ true → entry ≡ false → o ≡ None
none_left true o e other = cc other
none_left false None e other = refl
none_left false (Some m) e other = cc e

pub some_left : (entry : Bool) (o : Option Message) → (entry || not (is_some o)) ≡ false → (entry ≡ false) × (is_some o ≡ true)
some_left true o e = cc e
some_left false None e = cc e
some_left false (Some m) e = (refl, refl)
