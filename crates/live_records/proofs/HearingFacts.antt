-- A reader of a live day has heard what is to be heard: step by step.
use Rattle.std.proofs.Common.{◌≡◌, ◌∙◌, ◌+◌, ◌++◌, inl, inr, ℕ, Bool, true, false, not, List, [], ◌∷◌, Option, Some, None, length, append-nil, length-append, refl, sym, ap, subst}
use Rattle.std.specs.Prelude.{◌&&◌, ◌||◌, ◌==◌, if◌then◌else◌, is_some, option_map, unwrap_or}
use Rattle.std.specs.List.{list_any}
use Rattle.std.specs.Option.{option_map_or}
use Rattle.period_calendar.specs.Calendar.{CivilDay}
use Rattle.batch_records.specs.Codes.{first_code}
use Rattle.batch_records.specs.CountText.{count_in}
use Rattle.batch_records.specs.DayRecord.{Day, Room}
use Rattle.batch_records.specs.Flat.{body_with_entries, has_entries, with_entries}
use Rattle.batch_records.specs.Growing.{with_last_entry, with_record}
use Rattle.batch_records.specs.Kinds.{is_message_kind, kind_of}
use Rattle.batch_records.specs.Made.{batch_from, day_in, day_made, day_on, is_batch, is_batch_kind, is_day, is_end, is_entry, is_entry_kind, is_late, is_late_kind, no_date, so_far_of, version_of}
use Rattle.live_records.specs.OpenRecord.{has_said, is_whole, with_open}
use Rattle.batch_records.specs.Records.{Fields}
use Rattle.batch_records.specs.Rooms.{in_room}
use Rattle.batch_records.specs.Step.{IsInStep, after, after_kind, body_with, is_batch_body, with_entry}
use Rattle.batch_records.specs.Tallies.{States, StatesAs, StatesBy, day_after, is_setup_kind, late_code, tally_after, tally_of}
use Rattle.batch_records.specs.Versions.{count_field}
use Rattle.batch_records.specs.declared.day.Body.{Body}
use Rattle.batch_records.specs.declared.day.Body.TheVariants as bodies
use Rattle.batch_records.specs.declared.day.DayCode.{DayCode}
use Rattle.batch_records.specs.declared.day.Entry.{Entry}
use Rattle.batch_records.specs.declared.day.Message.{Message}
use Rattle.batch_records.specs.declared.day.MessageRecord.{MessageRecord}
use Rattle.batch_records.specs.declared.day.RecordBody.{RecordBody}
use Rattle.batch_records.specs.declared.day.RecordBody.TheVariants as records
use Rattle.batch_records.specs.declared.kinds.RecordKind.{RecordKind}
use Rattle.batch_records.specs.declared.kinds.RecordKind.TheVariants as record_kinds
use Rattle.batch_records.specs.declared.so_far.SoFar.{SoFar}
use Rattle.batch_records.specs.declared.tally.Piece.{Piece}
use Rattle.batch_records.specs.declared.tally.Piece.TheVariants as pieces
use Rattle.batch_records.specs.declared.tally.Tally.{Tally}
use Rattle.batch_records.proofs.CutCodes.{kept_code}
use Rattle.batch_records.proofs.CutWhole.{fine_whole}
use Rattle.batch_records.proofs.Fine.{entry_place, fine, kind_known}
use Rattle.batch_records.proofs.LastFacts.{with_last-split}
use Rattle.batch_records.proofs.StepFacts.{so_far_next}
use Rattle.batch_records.proofs.TallyFacts.{goes_on, judged_alike}
use Rattle.record_rows.specs.Rows.{kept_row}
use Rattle.live_records.specs.Ears.{AreSpoken, Hears, IsComing, IsHeard, IsTold, Says, Spoken, calls_said, closed, counting, ends_run, listening, refused, unless_open, with_piece, without_batch}
use Rattle.live_records.specs.Heard.{Breaks, Call, Refuses, Stops, Takes, Heard, Numbered, accept, calls_of, calls_of_batch, counted, day_of, fields_of, has_all, has_end, hear, is_some_of, judge, judged_with, numbers_of, passed, refuse, taken, unless_whole}
use Rattle.live_records.specs.Kept.{KeptIn}
use Rattle.live_records.specs.declared.ear.Ear.{Ear}
use Rattle.live_records.specs.declared.ear.Outcome.{Outcome}
use Rattle.live_records.specs.declared.ear.Outcome.TheVariants as outcomes
use Rattle.live_records.proofs.AcceptedFacts.{any_front, code_behind, entry_kind, entry_not_late, fields_alone, fields_last, fields_next, kept_alone, kept_batch, kept_entry, kept_single, kept_taken}
use Rattle.live_records.proofs.CallFacts.{after_of_kind, batch_kind}
use Rattle.live_records.proofs.FateFacts.{step_of}
use Rattle.live_records.proofs.JudgedFacts.{told_so}
use Rattle.live_records.proofs.RowKinds.{kept_kind}

abbrev rows_of : Heard → List Fields
rows_of h = fields_of (h.accepted ++ h.batch)

-- ---- what is so far, where one says by itself whether the day has begun and a batch is open

told_step : (s : SoFar) (b c : Bool) → (c ≡ true → s.in_batch ≡ true) → IsInStep s → IsInStep (told_so s b c)
told_step s b c h k = record { sound = k.sound; opened = k.opened; entries = k.entries; batch = λ e. k.batch (h e); dated = k.dated; started = k.started }

told_tally : (s : SoFar) (b c : Bool) → tally_of (told_so s b c) ≡ record (tally_of s) { in_batch = c }
unfolding tally_of
told_tally s b c = refl

after_tally : (kind : RecordKind) (s : SoFar) (b c : Bool) (r : Fields) → tally_of (after_kind kind (told_so s b c) r) ≡ record (tally_of (after_kind kind s r)) { in_batch = (after_kind kind (told_so s b c) r).in_batch }
unfolding tally_of after_kind
after_tally record_kinds.Ver s b c r = refl
after_tally record_kinds.Day s b c r = refl
after_tally record_kinds.As s b c r = refl
after_tally record_kinds.Acc s b c r = refl
after_tally record_kinds.Res s b c r = refl
after_tally record_kinds.Bat s b c r = refl
after_tally record_kinds.Ent s b c r = refl
after_tally record_kinds.Pay s b c r = refl
after_tally record_kinds.Liq s b c r = refl
after_tally record_kinds.Obj s b c r = refl
after_tally record_kinds.Cnf s b c r = refl
after_tally record_kinds.Cyc s b c r = refl
after_tally record_kinds.Tim s b c r = refl
after_tally record_kinds.End s b c r = refl

after_day : (kind : RecordKind) (s : SoFar) (b c : Bool) (r : Fields) (date : CivilDay) → day_on date (after_kind kind (told_so s b c) r) ≡ day_on date (after_kind kind s r)
unfolding after_kind
after_day record_kinds.Ver s b c r date = refl
after_day record_kinds.Day s b c r date = refl
after_day record_kinds.As s b c r date = refl
after_day record_kinds.Acc s b c r date = refl
after_day record_kinds.Res s b c r date = refl
after_day record_kinds.Bat s b c r date = refl
after_day record_kinds.Ent s b c r date = refl
after_day record_kinds.Pay s b c r date = refl
after_day record_kinds.Liq s b c r date = refl
after_day record_kinds.Obj s b c r date = refl
after_day record_kinds.Cnf s b c r date = refl
after_day record_kinds.Cyc s b c r date = refl
after_day record_kinds.Tim s b c r date = refl
after_day record_kinds.End s b c r date = refl

-- ---- a piece and the kind of its record

abbrev pub is_entry_piece : Piece → Bool
is_entry_piece (pieces.Entry e) = true
is_entry_piece _ = false

abbrev pub is_batch_piece : Piece → Bool
is_batch_piece (pieces.Message m) = has_entries m.body
is_batch_piece _ = false

abbrev pub is_message_piece : Piece → Bool
is_message_piece (pieces.Message m) = true
is_message_piece _ = false

abbrev pub is_late_piece : Piece → Bool
is_late_piece (pieces.Message m) = true
is_late_piece (pieces.Stop time) = true
is_late_piece _ = false

record IsPieceOf (kind : RecordKind) (piece : Piece) : Type 0 where
  entry : is_entry_kind kind ≡ is_entry_piece piece
  batch : is_batch_kind kind ≡ is_batch_piece piece
  message : is_message_kind kind ≡ is_message_piece piece
  late : is_late_kind kind ≡ is_late_piece piece

pub kind_kept : (b : RecordBody) → is_batch_body (body_with_entries b []) ≡ has_entries b
kind_kept (records.Batch procedure info from till count sum) = refl
kind_kept (records.Pay high debit credit amount) = refl
kind_kept (records.Liquidity debit credit amount) = refl
kind_kept (records.Object system batch) = refl
kind_kept (records.Confirm batch answer) = refl
kind_kept (records.Cycle start) = refl

-- a message is a batch where what is stated is one
stated_batch : (m : MessageRecord) (stated : Message) → with_entries m [] ≡ stated → is_batch_body stated.body ≡ has_entries m.body
stated_batch m stated e = sym (ap (λ (x : Message). is_batch_body x.body) e) ∙ kind_kept m.body

piece_of : (kind : RecordKind) (t : Tally) (r : Fields) (piece : Piece) → StatesAs kind t r piece → IsPieceOf kind piece
piece_of record_kinds.Ver t r piece states = absurd states
piece_of record_kinds.Day t r piece states = absurd states
piece_of record_kinds.As t r piece states = absurd states
piece_of record_kinds.Acc t r piece states = absurd states
piece_of record_kinds.Res t r piece states = absurd states
piece_of record_kinds.Bat t r (pieces.Message m) states = record { entry = refl; batch = stated_batch m _ states; message = refl; late = refl }
piece_of record_kinds.Bat t r (pieces.Entry e) states = absurd states
piece_of record_kinds.Bat t r (pieces.Stop time) states = absurd states
piece_of record_kinds.Bat t r pieces.End states = absurd states
piece_of record_kinds.Ent t r (pieces.Message m) states = absurd states
piece_of record_kinds.Ent t r (pieces.Entry e) states = record { entry = refl; batch = refl; message = refl; late = refl }
piece_of record_kinds.Ent t r (pieces.Stop time) states = absurd states
piece_of record_kinds.Ent t r pieces.End states = absurd states
piece_of record_kinds.Pay t r (pieces.Message m) states = record { entry = refl; batch = stated_batch m _ states; message = refl; late = refl }
piece_of record_kinds.Pay t r (pieces.Entry e) states = absurd states
piece_of record_kinds.Pay t r (pieces.Stop time) states = absurd states
piece_of record_kinds.Pay t r pieces.End states = absurd states
piece_of record_kinds.Liq t r (pieces.Message m) states = record { entry = refl; batch = stated_batch m _ states; message = refl; late = refl }
piece_of record_kinds.Liq t r (pieces.Entry e) states = absurd states
piece_of record_kinds.Liq t r (pieces.Stop time) states = absurd states
piece_of record_kinds.Liq t r pieces.End states = absurd states
piece_of record_kinds.Obj t r (pieces.Message m) states = record { entry = refl; batch = stated_batch m _ states; message = refl; late = refl }
piece_of record_kinds.Obj t r (pieces.Entry e) states = absurd states
piece_of record_kinds.Obj t r (pieces.Stop time) states = absurd states
piece_of record_kinds.Obj t r pieces.End states = absurd states
piece_of record_kinds.Cnf t r (pieces.Message m) states = record { entry = refl; batch = stated_batch m _ states; message = refl; late = refl }
piece_of record_kinds.Cnf t r (pieces.Entry e) states = absurd states
piece_of record_kinds.Cnf t r (pieces.Stop time) states = absurd states
piece_of record_kinds.Cnf t r pieces.End states = absurd states
piece_of record_kinds.Cyc t r (pieces.Message m) states = record { entry = refl; batch = stated_batch m _ states; message = refl; late = refl }
piece_of record_kinds.Cyc t r (pieces.Entry e) states = absurd states
piece_of record_kinds.Cyc t r (pieces.Stop time) states = absurd states
piece_of record_kinds.Cyc t r pieces.End states = absurd states
piece_of record_kinds.Tim t r (pieces.Message m) states = absurd states
piece_of record_kinds.Tim t r (pieces.Entry e) states = absurd states
piece_of record_kinds.Tim t r (pieces.Stop time) states = record { entry = refl; batch = refl; message = refl; late = refl }
piece_of record_kinds.Tim t r pieces.End states = absurd states
piece_of record_kinds.End t r (pieces.Message m) states = absurd states
piece_of record_kinds.End t r (pieces.Entry e) states = absurd states
piece_of record_kinds.End t r (pieces.Stop time) states = absurd states
piece_of record_kinds.End t r pieces.End states = record { entry = refl; batch = refl; message = refl; late = refl }

date_stays : (kind : RecordKind) (s : SoFar) (t : Tally) (r : Fields) (piece : Piece) → StatesAs kind t r piece → (after_kind kind s r).date ≡ s.date
unfolding after_kind
date_stays record_kinds.Ver s t r piece states = absurd states
date_stays record_kinds.Day s t r piece states = absurd states
date_stays record_kinds.As s t r piece states = absurd states
date_stays record_kinds.Acc s t r piece states = absurd states
date_stays record_kinds.Res s t r piece states = absurd states
date_stays record_kinds.Bat s t r piece states = refl
date_stays record_kinds.Ent s t r piece states = refl
date_stays record_kinds.Pay s t r piece states = refl
date_stays record_kinds.Liq s t r piece states = refl
date_stays record_kinds.Obj s t r piece states = refl
date_stays record_kinds.Cnf s t r piece states = refl
date_stays record_kinds.Cyc s t r piece states = refl
date_stays record_kinds.Tim s t r piece states = refl
date_stays record_kinds.End s t r piece states = refl

states_as : (kind : RecordKind) (t : Tally) (r : Fields) (piece : Piece) → kind_of r ≡ Some kind → States t r piece → StatesAs kind t r piece
states_as kind t r piece is states = subst (λ o. StatesBy o t r piece) is states

-- ---- a record without a code, after what was heard

-- with it the numbers, and the day, are those after its piece
record GrownBy (h : Heard) (r : Fields) (piece : Piece) : Type 0 where
  tally : (b c : Bool) → c ≡ (tally_after piece (tally_of (judged_with h))).in_batch → tally_of (told_so (so_far_of (rows_of h ++ r ∷ [])) b c) ≡ tally_after piece (tally_of (judged_with h))
  day : day_made (rows_of h ++ r ∷ []) ≡ day_after piece (day_made (rows_of h))

in_batch_is : (t : Tally) (c : Bool) → c ≡ t.in_batch → record t { in_batch = c } ≡ t
in_batch_is t c e = λ i. record t { in_batch = e i }

pub made_in : (rows : List Fields) → day_made rows ≡ day_in (so_far_of rows)
unfolding so_far_of
made_in rows = refl

batch_placed : (h : Heard) → KeptIn h → is_some_of h.batch ≡ true → (so_far_of (rows_of h)).in_batch ≡ true
unfolding so_far_of
batch_placed h k some = k.batched some

grown : (h : Heard) (r : Fields) (piece : Piece) → KeptIn h → first_code (judged_with h) r ≡ None → States (tally_of (judged_with h)) r piece → GrownBy h r piece
grown h r piece k e states =
    let s = so_far_of (rows_of h) in
    let known = kind_known (judged_with h) r e in
    let kind : RecordKind = known.0 in
    let code : first_code s r ≡ None = code_behind h r k e in
    let batched : is_some_of h.batch ≡ true → s.in_batch ≡ true = batch_placed h k in
    let goes = goes_on (judged_with h) r piece (told_step s h.begun (is_some_of h.batch) batched k.all.step) e states in
    let now : after (judged_with h) r ≡ after_kind kind (judged_with h) r = after_of_kind kind (judged_with h) r known.1 in
    let next : so_far_of (rows_of h ++ r ∷ []) ≡ after_kind kind s r = so_far_next (rows_of h) r code ∙ after_of_kind kind s r known.1 in
    let stated : StatesAs kind (tally_of (judged_with h)) r piece = states_as kind (tally_of (judged_with h)) r piece known.1 states in
    let counted_as : record (tally_of (after_kind kind s r)) { in_batch = (after_kind kind (judged_with h) r).in_batch } ≡ tally_after piece (tally_of (judged_with h)) =
    sym (after_tally kind s h.begun (is_some_of h.batch) r) ∙ ap tally_of (sym now) ∙ goes.tally in
    record {
      tally = λ b c is.
          ap (λ (x : SoFar). tally_of (told_so x b c)) next
          ∙ told_tally (after_kind kind s r) b c
          ∙ ap (λ (t : Tally). record t { in_batch = c }) counted_as
          ∙ in_batch_is (tally_after piece (tally_of (judged_with h))) c is;
      day =
          made_in (rows_of h ++ r ∷ [])
          ∙ ap day_in next
          ∙ (λ i. day_on (unwrap_or (date_stays kind s (tally_of (judged_with h)) r piece stated i) no_date) (after_kind kind s r))
          ∙ sym (after_day kind s h.begun (is_some_of h.batch) r (unwrap_or s.date no_date))
          ∙ ap (day_on (unwrap_or s.date no_date)) (sym now)
          ∙ goes.day (unwrap_or s.date no_date)
          ∙ ap (day_after piece) (sym (made_in (rows_of h)));
    }

-- ---- a batch comes to the day

open_in_room : (o : Option Message) (room : Room) (day : Day) → with_open o (in_room room day) ≡ in_room room (with_open o day)
open_in_room None room day = refl
open_in_room (Some m) room day = refl

open_room : (o : Option Message) (day : Day) → (with_open o day).room ≡ day.room
open_room None day = refl
open_room (Some m) day = refl

told_other : (s : SoFar) (b c d : Bool) → record (tally_of (told_so s b c)) { in_batch = d } ≡ tally_of (told_so s b d)
unfolding tally_of
told_other s b c d = refl

told_begun : (s : SoFar) (b c d : Bool) → tally_of (told_so s b c) ≡ tally_of (told_so s d c)
unfolding tally_of
told_begun s b c d = refl

pub taken_heard : (h : Heard) (ear : Ear) (day : Day) → IsHeard h ear day → IsHeard (taken h) (closed ear) (with_open ear.coming.batch day)
taken_heard h ear day k =
    let none = fields_alone (h.accepted ++ h.batch) in
    let tally : record ear.tally { in_batch = false } ≡ tally_of (judged_with (taken h)) =
    ap (λ (t : Tally). record t { in_batch = false }) k.tally
    ∙ told_other (so_far_of (rows_of h)) h.begun (is_some_of h.batch) false
    ∙ ap (λ (rows : List Fields). tally_of (told_so (so_far_of rows) h.begun false)) (sym none) in
    record {
      kept = kept_taken h.accepted h.batch h.begun k.kept;
      going = k.going;
      started = any_front is_day h.accepted h.batch k.started;
      tally = tally;
      before = tally;
      accepted = ap (with_open ear.coming.batch) k.accepted ∙ open_in_room ear.coming.batch day.room (day_of h) ∙ ap (in_room day.room) k.whole
          ∙ ap (λ (room : Room). in_room room (day_made (rows_of h))) (sym (open_room ear.coming.batch day));
      coming = tt;
      whole = ap day_made (sym none);
      begun = k.begun;
      passing = k.passing;
    }

said_same : (b : Body) (said so_far : ℕ) → Says b said so_far → has_said b ≡ (so_far == said)
said_same (bodies.Batch procedure info from till count sum entries) said so_far k = λ i. k.1 i == k.0 i
said_same (bodies.Pay high debit credit amount) said so_far k = absurd k
said_same (bodies.Liquidity debit credit amount) said so_far k = absurd k
said_same (bodies.Object system batch) said so_far k = absurd k
said_same (bodies.Confirm batch answer) said so_far k = absurd k
said_same (bodies.Cycle start) said so_far k = absurd k

whole_same : (version : ℕ) (batch : List Numbered) (o : Option Message) → IsComing version batch o → is_whole o ≡ has_all version batch
whole_same version [] None k = refl
whole_same version [] (Some m) k = absurd k
whole_same version (x ∷ entries) None k = absurd k
whole_same version (x ∷ entries) (Some m) k = said_same m.body (count_in (count_field version x.1)) (length entries) k

calls_whole : (version : ℕ) (batch : List Numbered) → has_all version batch ≡ true → calls_of_batch batch ≡ Takes ∷ []
calls_whole version [] e = cc e
calls_whole version (x ∷ entries) e = refl

calls_some : (batch : List Numbered) → is_some_of batch ≡ true → calls_of_batch batch ≡ Takes ∷ []
calls_some [] e = cc e
calls_some (x ∷ entries) e = refl

-- what is heard, and what was said of it, by a number, where it doesn't end the run
record IsSpoken (h : Heard) (earlier : List Call) (n : ℕ) (x : Spoken) : Type 0 where
  heard : IsHeard h x.ear x.day
  calls : h.calls ≡ earlier ++ calls_said n x.said
  goes : ends_run x.said ≡ false

whole_heard : (h : Heard) (ear : Ear) (day : Day) (n : ℕ) → IsHeard h ear day → IsSpoken (unless_whole h) h.calls n (unless_open ear day)
whole_heard h ear day n k =
    let same : is_whole ear.coming.batch ≡ has_all (version_of (fields_of h.accepted)) h.batch = whole_same (version_of (fields_of h.accepted)) h.batch ear.coming.batch k.coming in
    subst (λ (x : Bool). IsSpoken (if x then taken h else h) h.calls n (unless_open ear day)) same (by (is_whole ear.coming.batch) (sym same))
  where
    by : (x : Bool) → has_all (version_of (fields_of h.accepted)) h.batch ≡ x
        → IsSpoken (if x then taken h else h) h.calls n (if x then record { ear = closed ear; day = with_open ear.coming.batch day; said = outcomes.Takes } else record { ear = ear; day = day; said = outcomes.Nothing })
    by true e = record { heard = taken_heard h ear day k; calls = ap (λ (l : List Call). h.calls ++ l) (calls_whole (version_of (fields_of h.accepted)) h.batch e); goes = refl }
    by false e = record { heard = k; calls = sym (append-nil h.calls); goes = refl }

-- ---- an entry, a batch, and a record by itself

says_more : (b : Body) (said so_far more : ℕ) (e : Entry) → more ≡ so_far + 1 → Says b said so_far → Says (body_with e b) said more
says_more (bodies.Batch procedure info from till count sum entries) said so_far more e m k = (k.0, length-append entries (e ∷ []) ∙ ap (λ n. n + 1) k.1 ∙ sym m)
says_more (bodies.Pay high debit credit amount) said so_far more e m k = absurd k
says_more (bodies.Liquidity debit credit amount) said so_far more e m k = absurd k
says_more (bodies.Object system batch) said so_far more e m k = absurd k
says_more (bodies.Confirm batch answer) said so_far more e m k = absurd k
says_more (bodies.Cycle start) said so_far more e m k = absurd k

coming_more : (version : ℕ) (batch : List Numbered) (x : Numbered) (o : Option Message) (e : Entry) → is_some_of batch ≡ true → IsComing version batch o → IsComing version (batch ++ x ∷ []) (option_map (with_entry e) o)
coming_more version [] x o e some k = cc some
coming_more version (y ∷ entries) x None e some k = absurd k
coming_more version (y ∷ entries) x (Some m) e some k = says_more m.body (count_in (count_field version y.1)) (length entries) (length (entries ++ x ∷ [])) e (length-append entries (x ∷ [])) k

-- where no record of a batch is open, none is coming, and the other way round
pub none_coming : (version : ℕ) (batch : List Numbered) (o : Option Message) → batch ≡ [] → IsComing version batch o → o ≡ None
none_coming version [] None none k = refl
none_coming version [] (Some m) none k = absurd k
none_coming version (x ∷ entries) o none k = cc none

pub none_open : (version : ℕ) (batch : List Numbered) (o : Option Message) → o ≡ None → IsComing version batch o → batch ≡ []
none_open version [] o none k = refl
none_open version (x ∷ entries) None none k = absurd k
none_open version (x ∷ entries) (Some m) none k = cc none

some_coming : (version : ℕ) (batch : List Numbered) (o : Option Message) → IsComing version batch o → is_some o ≡ is_some_of batch
some_coming version [] None k = refl
some_coming version [] (Some m) k = absurd k
some_coming version (x ∷ entries) None k = absurd k
some_coming version (x ∷ entries) (Some m) k = refl

any_version : (version other : ℕ) (batch : List Numbered) (o : Option Message) → batch ≡ [] → IsComing version batch o → IsComing other batch o
any_version version other [] None none k = tt
any_version version other [] (Some m) none k = absurd k
any_version version other (x ∷ entries) o none k = cc none

open_more : (o : Option Message) (day : Day) (e : Entry) → is_some o ≡ true → with_open (option_map (with_entry e) o) day ≡ with_last_entry e (with_open o day)
open_more None day e some = cc some
open_more (Some m) day e some = ap (λ (ms : List Message). record day { messages = ms }) (sym (with_last-split (with_entry e) day.messages m))

some_after : (batch : List Numbered) (x : Numbered) → is_some_of (batch ++ x ∷ []) ≡ true
some_after [] x = refl
some_after (y ∷ batch) x = refl

tally_in_batch : (s : SoFar) → (tally_of s).in_batch ≡ s.in_batch
unfolding tally_of
tally_in_batch s = refl

entry_heard : (h : Heard) (ear : Ear) (day : Day) (r : Fields) (e : Entry) → IsHeard h ear day → h.begun ≡ true → is_entry r ≡ true → first_code (judged_with h) r ≡ None → States (tally_of (judged_with h)) r (pieces.Entry e)
    → IsHeard (record h { batch = h.batch ++ (h.count, r) ∷ [] }) (record (counting (pieces.Entry e) ear) { coming = record ear.coming { batch = option_map (with_entry e) ear.coming.batch } }) day
entry_heard h ear day r e k begun is code states =
    let g = grown h r (pieces.Entry e) k.kept code states in
    let some : is_some_of h.batch ≡ true = entry_place (judged_with h) r (fine record_kinds.Ent (judged_with h) r code (entry_kind r is)) in
    let rows : fields_of (h.accepted ++ (h.batch ++ (h.count, r) ∷ [])) ≡ rows_of h ++ r ∷ [] = fields_last h.accepted h.batch (h.count, r) in
    let open_now : Bool = is_some_of (h.batch ++ (h.count, r) ∷ []) in
    record {
      kept = kept_entry h r k.kept is code;
      going = k.going;
      started = k.started;
      tally = ap (tally_after (pieces.Entry e)) k.tally
          ∙ sym (g.tally h.begun open_now (some_after h.batch (h.count, r) ∙ sym some ∙ sym (tally_in_batch (judged_with h))))
          ∙ ap (λ (l : List Fields). tally_of (told_so (so_far_of l) h.begun open_now)) (sym rows);
      before = k.before;
      accepted = k.accepted;
      coming = coming_more (version_of (fields_of h.accepted)) h.batch (h.count, r) ear.coming.batch e some k.coming;
      whole = open_more ear.coming.batch (day_of h) e (some_coming (version_of (fields_of h.accepted)) h.batch ear.coming.batch k.coming ∙ some) ∙ ap (with_last_entry e) k.whole ∙ sym g.day ∙ ap day_made (sym rows);
      begun = sym begun;
      passing = k.passing;
    }

pub rows_alone : (h : Heard) → h.batch ≡ [] → rows_of h ≡ fields_of h.accepted
rows_alone h none = ap (λ (l : List Numbered). fields_of (h.accepted ++ l)) none ∙ fields_alone h.accepted

says_batch : (version stops : ℕ) (r : Fields) (m : MessageRecord) → with_entries m [] ≡ batch_from version stops [] r → Says (body_with_entries m.body []) (count_in (count_field version r)) 0
says_batch version stops r m e = subst (λ (x : Message). Says x.body (count_in (count_field version r)) 0) (sym e) (refl, refl)

tally_version : (h : Heard) → (tally_of (judged_with h)).version ≡ version_of (rows_of h)
unfolding tally_of so_far_of
tally_version h = refl

batch_heard : (h : Heard) (ear : Ear) (day : Day) (r : Fields) (m : MessageRecord) → IsHeard h ear day → h.batch ≡ [] → is_batch r ≡ true → first_code (judged_with h) r ≡ None → States (tally_of (judged_with h)) r (pieces.Message m)
    → has_entries m.body ≡ true
    → IsHeard (record h { batch = (h.count, r) ∷ []; begun = true }) (record (counting (pieces.Message m) ear) { coming = record ear.coming { batch = Some (with_entries m []) } }) day
batch_heard h ear day r m k none is code states has =
    let g = grown h r (pieces.Message m) k.kept code states in
    let one = rows_alone h none in
    let rows : fields_of (h.accepted ++ (h.count, r) ∷ []) ≡ rows_of h ++ r ∷ [] = fields_next h.accepted (h.count, r) ∙ ap (λ (l : List Fields). l ++ r ∷ []) (sym one) in
    let stated : StatesAs record_kinds.Bat (tally_of (judged_with h)) r (pieces.Message m) = states_as record_kinds.Bat (tally_of (judged_with h)) r (pieces.Message m) (batch_kind r is) states in
    record {
      kept = kept_batch h r k.kept none is code;
      going = k.going;
      started = k.started;
      tally = ap (tally_after (pieces.Message m)) k.tally ∙ sym (g.tally true true (sym has)) ∙ ap (λ (l : List Fields). tally_of (told_so (so_far_of l) true true)) (sym rows);
      before = k.before ∙ told_begun (so_far_of (fields_of (h.accepted ++ []))) h.begun false true;
      accepted = k.accepted;
      coming = subst (λ (version : ℕ). Says (body_with_entries m.body []) (count_in (count_field version r)) 0) (tally_version h ∙ ap version_of one) (says_batch (tally_of (judged_with h)).version (tally_of (judged_with h)).stops r m stated);
      whole = ap (with_record m) (ap day_made (sym one)) ∙ sym g.day ∙ ap day_made (sym rows);
      begun = refl;
      passing = k.passing;
    }

after_in_room : (piece : Piece) (room : Room) (day : Day) → day_after piece (in_room room day) ≡ in_room room (day_after piece day)
after_in_room (pieces.Message m) room day = refl
after_in_room (pieces.Entry e) room day = refl
after_in_room (pieces.Stop time) room day = refl
after_in_room pieces.End room day = refl

after_room : (piece : Piece) (day : Day) → (day_after piece day).room ≡ day.room
after_room (pieces.Message m) day = refl
after_room (pieces.Entry e) day = refl
after_room (pieces.Stop time) day = refl
after_room pieces.End day = refl

-- no batch is open after a record that is neither a batch nor an entry
shut_after : (piece : Piece) (t : Tally) → is_entry_piece piece ≡ false → is_batch_piece piece ≡ false → (tally_after piece t).in_batch ≡ false
shut_after (pieces.Message m) t entry batch = batch
shut_after (pieces.Entry e) t entry batch = cc entry
shut_after (pieces.Stop time) t entry batch = refl
shut_after pieces.End t entry batch = refl

single_heard : (h : Heard) (ear : Ear) (day : Day) (r : Fields) (piece : Piece) → IsHeard h ear day → (h.begun || is_late r) ≡ true → h.batch ≡ [] → is_entry_piece piece ≡ false → is_batch_piece piece ≡ false
    → first_code (judged_with h) r ≡ None → States (tally_of (judged_with h)) r piece
    → IsHeard (record h { accepted = h.accepted ++ (h.count, r) ∷ []; begun = h.begun || is_late r; calls = h.calls ++ calls_of r }) (record (counting piece ear) { before = tally_after piece ear.tally }) (day_after piece day)
single_heard h ear day r piece k late none entry batch code states =
    let g = grown h r piece k.kept code states in
    let one = rows_alone h none in
    let next : fields_of (h.accepted ++ (h.count, r) ∷ []) ≡ rows_of h ++ r ∷ [] = fields_next h.accepted (h.count, r) ∙ ap (λ (l : List Fields). l ++ r ∷ []) (sym one) in
    let rows : fields_of ((h.accepted ++ (h.count, r) ∷ []) ++ h.batch) ≡ fields_of (h.accepted ++ (h.count, r) ∷ []) =
    ap (λ (l : List Numbered). fields_of ((h.accepted ++ (h.count, r) ∷ []) ++ l)) none ∙ fields_alone (h.accepted ++ (h.count, r) ∷ []) in
    let shut = sym (shut_after piece (tally_of (judged_with h)) entry batch) in
    let begun : Bool = h.begun || is_late r in
    let no_batch : ear.coming.batch ≡ None = none_coming (version_of (fields_of h.accepted)) h.batch ear.coming.batch none k.coming in
    record {
      kept = kept_single h r k.kept none code;
      going = k.going;
      started = any_front is_day h.accepted ((h.count, r) ∷ []) k.started;
      tally = ap (tally_after piece) k.tally ∙ sym (g.tally begun (is_some_of h.batch) (ap is_some_of none ∙ shut)) ∙ ap (λ (l : List Fields). tally_of (told_so (so_far_of l) begun (is_some_of h.batch))) (sym (rows ∙ next));
      before = ap (tally_after piece) k.tally ∙ sym (g.tally begun false shut) ∙ ap (λ (l : List Fields). tally_of (told_so (so_far_of l) begun false)) (sym (fields_alone (h.accepted ++ (h.count, r) ∷ []) ∙ next));
      accepted =
          ap (day_after piece) k.accepted ∙ after_in_room piece day.room (day_of h)
          ∙ ap (in_room day.room) (ap (day_after piece) (ap day_made (sym one)) ∙ sym g.day ∙ ap day_made (sym next))
          ∙ ap (λ (room : Room). in_room room (day_made (fields_of (h.accepted ++ (h.count, r) ∷ [])))) (sym (after_room piece day));
      coming = any_version (version_of (fields_of h.accepted)) (version_of (fields_of (h.accepted ++ (h.count, r) ∷ []))) h.batch ear.coming.batch none k.coming;
      whole = ap (λ (o : Option Message). with_open o (day_made (fields_of (h.accepted ++ (h.count, r) ∷ [])))) no_batch ∙ ap day_made (sym rows);
      begun = sym late;
      passing = k.passing;
    }

-- ---- a record that is accepted

pub record KindIs (r : Fields) (piece : Piece) : Type 0 where
  pub entry : is_entry r ≡ is_entry_piece piece
  pub batch : is_batch r ≡ is_batch_piece piece
  pub calls : calls_of r ≡ (if is_message_piece piece then Takes ∷ [] else if is_late_piece piece then Stops ∷ [] else [])

pub kind_is : (o : Option RecordKind) (t : Tally) (r : Fields) (piece : Piece) → kind_of r ≡ o → StatesBy o t r piece → KindIs r piece
kind_is None t r piece is states = absurd states
kind_is (Some kind) t r piece is states =
    let p = piece_of kind t r piece states in
    record {
      entry = ap (λ (o : Option RecordKind). option_map_or is_entry_kind o false) is ∙ p.entry;
      batch = ap (λ (o : Option RecordKind). option_map_or is_batch_kind o false) is ∙ p.batch;
      calls = ap (λ (o : Option RecordKind). if option_map_or is_message_kind o false then Takes ∷ [] else if option_map_or is_late_kind o false then Stops ∷ [] else []) is
          ∙ (λ i. if p.message i then Takes ∷ [] else if p.late i then Stops ∷ [] else []);
    }

pub entry_begun : (b : Bool) (r : Fields) → (b || is_late r) ≡ true → is_entry r ≡ true → b ≡ true
entry_begun true r late is = refl
entry_begun false r late is = cc (late, entry_not_late r is)

accept_spoken : (h : Heard) (ear : Ear) (day : Day) (r : Fields) (piece : Piece) → IsHeard h ear day → (h.begun || is_late r) ≡ true → (is_entry r ≡ false → h.batch ≡ []) → first_code (judged_with h) r ≡ None → States (tally_of (judged_with h)) r piece
    → IsSpoken (accept h r) h.calls h.count (with_piece piece (counting piece ear) day)
unfolding accept
accept_spoken h ear day r piece k late none code states = by piece states (is_entry r) (is_batch r) refl refl (kind_is (kind_of r) (tally_of (judged_with h)) r piece refl states)
  where
    by : (p : Piece) → States (tally_of (judged_with h)) r p → (x y : Bool) → is_entry r ≡ x → is_batch r ≡ y → KindIs r p
        → IsSpoken (if x then unless_whole (record h { batch = h.batch ++ (h.count, r) ∷ [] }) else if y then unless_whole (record h { batch = (h.count, r) ∷ []; begun = true })
        else record h { accepted = h.accepted ++ (h.count, r) ∷ []; begun = h.begun || is_late r; calls = h.calls ++ calls_of r }) h.calls h.count (with_piece p (counting p ear) day)
    by (pieces.Entry e) s true y is other kind = whole_heard (record h { batch = h.batch ++ (h.count, r) ∷ [] }) _ day h.count (entry_heard h ear day r e k (entry_begun h.begun r late is) is code s)
    by (pieces.Entry e) s false y is other kind = cc (is, kind.entry)
    by (pieces.Message m) s true y is other kind = cc (is, kind.entry)
    by (pieces.Message m) s false true is other kind =
        let has : has_entries m.body ≡ true = sym kind.batch ∙ other in
        subst (λ (z : Bool). IsSpoken (unless_whole (record h { batch = (h.count, r) ∷ []; begun = true })) h.calls h.count (if z then unless_open (record (counting (pieces.Message m) ear) { coming = record ear.coming { batch = Some (with_entries m []) } }) day
        else record { ear = record (counting (pieces.Message m) ear) { before = tally_after (pieces.Message m) ear.tally }; day = with_record m day; said = outcomes.Takes })) (sym has)
        (whole_heard (record h { batch = (h.count, r) ∷ []; begun = true }) _ day h.count (batch_heard h ear day r m k (none is) other code s has))
    by (pieces.Message m) s false false is other kind =
        let has : has_entries m.body ≡ false = sym kind.batch ∙ other in
        subst (λ (z : Bool). IsSpoken (record h { accepted = h.accepted ++ (h.count, r) ∷ []; begun = h.begun || is_late r; calls = h.calls ++ calls_of r }) h.calls h.count
        (if z then unless_open (record (counting (pieces.Message m) ear) { coming = record ear.coming { batch = Some (with_entries m []) } }) day
        else record { ear = record (counting (pieces.Message m) ear) { before = tally_after (pieces.Message m) ear.tally }; day = with_record m day; said = outcomes.Takes })) (sym has)
        (record { heard = single_heard h ear day r (pieces.Message m) k late (none is) refl has code s; calls = ap (λ (l : List Call). h.calls ++ l) kind.calls; goes = refl })
    by (pieces.Stop time) s true y is other kind = cc (is, kind.entry)
    by (pieces.Stop time) s false true is other kind = cc (other, kind.batch)
    by (pieces.Stop time) s false false is other kind = record { heard = single_heard h ear day r (pieces.Stop time) k late (none is) refl refl code s; calls = ap (λ (l : List Call). h.calls ++ l) kind.calls; goes = refl }
    by pieces.End s true y is other kind = cc (is, kind.entry)
    by pieces.End s false true is other kind = cc (other, kind.batch)
    by pieces.End s false false is other kind = record { heard = single_heard h ear day r pieces.End k late (none is) refl refl code s; calls = ap (λ (l : List Call). h.calls ++ l) kind.calls; goes = refl }

-- ---- one that is refused, or passed over

refused_heard : (h : Heard) (ear : Ear) (day : Day) (r : Fields) (c : DayCode) → IsHeard h ear day → h.begun ≡ true
    → IsSpoken (refuse h r c) h.calls h.count (record { ear = refused (is_batch r) ear; day = day; said = outcomes.Refuses c })
unfolding refuse
refused_heard h ear day r c k begun = by h.begun begun
  where
    by : (x : Bool) → x ≡ true → IsSpoken (if x then record h { batch = []; dropped = h.dropped ++ numbers_of h.batch; passing = is_batch r || is_some_of h.batch; calls = h.calls ++ Refuses h.count c ∷ [] }
        else record h { broken = true; calls = h.calls ++ Breaks h.count c ∷ [] }) h.calls h.count (record { ear = refused (is_batch r) ear; day = day; said = outcomes.Refuses c })
    by false e = cc e
    by true e = record {
      heard = record {
        kept = kept_alone h.accepted h.batch h.begun k.kept;
        going = k.going;
        started = k.started;
        tally = k.before;
        before = k.before;
        accepted = k.accepted;
        coming = tt;
        whole = ap day_made (sym (fields_alone h.accepted));
        begun = k.begun;
        passing = ap (λ (x : Bool). is_batch r || x) (some_coming (version_of (fields_of h.accepted)) h.batch ear.coming.batch k.coming);
      };
      calls = refl;
      goes = refl;
    }

pub refuse_breaks : (h : Heard) (r : Fields) (c : DayCode) → h.begun ≡ false → refuse h r c ≡ record h { broken = true; calls = h.calls ++ Breaks h.count c ∷ [] }
unfolding refuse
refuse_breaks h r c e = ap (λ (x : Bool). if x then record h { batch = []; dropped = h.dropped ++ numbers_of h.batch; passing = is_batch r || is_some_of h.batch; calls = h.calls ++ Refuses h.count c ∷ [] }
    else record h { broken = true; calls = h.calls ++ Breaks h.count c ∷ [] }) e

passed_heard : (h : Heard) (ear : Ear) (day : Day) → IsHeard h ear day → IsHeard (passed h) ear day
passed_heard h ear day k = record { kept = k.kept; going = k.going; started = k.started; tally = k.tally; before = k.before; accepted = k.accepted; coming = k.coming; whole = k.whole; begun = k.begun; passing = k.passing }

counted_heard : (h : Heard) (ear : Ear) (day : Day) → IsHeard h ear day → IsHeard (counted h) (listening ear) day
counted_heard h ear day k = record { kept = k.kept; going = k.going; started = k.started; tally = k.tally; before = k.before; accepted = k.accepted; coming = k.coming; whole = k.whole; begun = k.begun; passing = refl }

-- ---- END

told_end : (s : SoFar) (b c : Bool) → (tally_of (told_so s b c)).ended ≡ s.ended
unfolding tally_of
told_end s b c = refl

pub end_of : (rows : List Fields) → (so_far_of rows).ended ≡ list_any is_end rows
unfolding so_far_of
end_of rows = refl

pub end_heard : (h : Heard) (ear : Ear) (day : Day) → IsHeard h ear day → ear.before.ended ≡ has_end h
end_heard h ear day k =
    ap (λ (t : Tally). t.ended) k.before ∙ told_end (so_far_of (fields_of (h.accepted ++ []))) h.begun false ∙ end_of (fields_of (h.accepted ++ [])) ∙ ap (list_any is_end) (fields_alone h.accepted)

-- ---- what is kept of the record

row_kind : (row r : Fields) → row ≡ kept_row r → kind_of row ≡ kind_of r
row_kind row r is = ap kind_of is ∙ kept_kind r

pub row_entry : (row r : Fields) → row ≡ kept_row r → is_entry row ≡ is_entry r
row_entry row r is = ap (λ (o : Option RecordKind). option_map_or is_entry_kind o false) (row_kind row r is)

row_batch : (row r : Fields) → row ≡ kept_row r → is_batch row ≡ is_batch r
row_batch row r is = ap (λ (o : Option RecordKind). option_map_or is_batch_kind o false) (row_kind row r is)

row_late : (row r : Fields) → row ≡ kept_row r → is_late row ≡ is_late r
row_late row r is = ap (λ (o : Option RecordKind). option_map_or is_late_kind o false) (row_kind row r is)

started_before : (h : Heard) → list_any is_day (fields_of h.accepted) ≡ true → (judged_with h).started ≡ true
unfolding so_far_of
started_before h started = any_front is_day h.accepted h.batch started

late_kind : (kind : RecordKind) → is_late_kind kind ≡ true → not (is_setup_kind kind) ≡ true
late_kind record_kinds.As e = cc e
late_kind record_kinds.Acc e = cc e
late_kind record_kinds.Res e = cc e
late_kind _ e = refl

over_setup : (b : Bool) (o : Option RecordKind) → (b || option_map_or is_late_kind o false) ≡ true → option_map_or (λ kind. b || not (is_setup_kind kind)) o true ≡ true
over_setup b None late = refl
over_setup true (Some kind) late = refl
over_setup false (Some kind) late = late_kind kind late

row_code : (h : Heard) (ear : Ear) (day : Day) (row r : Fields) → IsHeard h ear day → row ≡ kept_row r → (h.begun || is_late row) ≡ true → late_code (tally_of (judged_with h)) row ≡ first_code (judged_with h) r
row_code h ear day row r k is late =
    judged_alike (judged_with h) row (started_before h k.started) (over_setup h.begun (kind_of row) late) ∙ ap (first_code (judged_with h)) is ∙ kept_code (judged_with h) r

-- ---- the step

taken_none : (h : Heard) → h.batch ≡ [] → taken h ≡ h
taken_none h none =
    (λ i. record h { accepted = h.accepted ++ none i; batch = []; calls = h.calls ++ calls_of_batch (none i) })
    ∙ (λ i. record h { accepted = append-nil h.accepted i; batch = sym none i; calls = append-nil h.calls i })

pub judged_next : (h : Heard) (r : Fields) → h.broken ≡ false → (is_entry r ≡ false → h.batch ≡ []) → (h.passing && is_entry r) ≡ false → hear h r ≡ judge (counted h) r
judged_next h r going none not_passed = step_of h r going ∙ by (is_entry r) h.passing refl not_passed
  where
    by : (x z : Bool) → is_entry r ≡ x → (z && x) ≡ false → (if x then (if z then passed h else judge (counted h) r) else judge (counted (taken h)) r) ≡ judge (counted h) r
    by true true is e = cc e
    by true false is e = refl
    by false z is e = ap (λ (g : Heard). judge (counted g) r) (taken_none h (none is))

passed_next : (h : Heard) (r : Fields) → h.broken ≡ false → (h.passing && is_entry r) ≡ true → hear h r ≡ passed h
passed_next h r going over = step_of h r going ∙ by (is_entry r) h.passing over
  where
    by : (x z : Bool) → (z && x) ≡ true → (if x then (if z then passed h else judge (counted h) r) else judge (counted (taken h)) r) ≡ passed h
    by true true e = refl
    by true false e = cc e
    by false true e = cc e
    by false false e = cc e

pub judge_fine : (h : Heard) (r : Fields) → first_code (judged_with h) r ≡ None → judge h r ≡ accept h r
judge_fine h r e = ap (λ (o : Option DayCode). option_map_or (refuse h r) o (accept h r)) e

pub judge_bad : (h : Heard) (r : Fields) (c : DayCode) → first_code (judged_with h) r ≡ Some c → judge h r ≡ refuse h r c
judge_bad h r c e = ap (λ (o : Option DayCode). option_map_or (refuse h r) o (accept h r)) e

-- what was said and is as it was said
spoken_told : (h g : Heard) (r : Fields) (said : Outcome) (ear : Ear) (day : Day) (x : Spoken) → hear h r ≡ g → AreSpoken ear day said x → IsSpoken g h.calls (h.count + 1) x → IsTold h r said ear day
spoken_told h g r said ear day x next are s =
    subst (λ (y : Outcome). IsTold h r y ear day) (sym are.2)
    (subst (λ (y : Day). IsTold h r x.said ear y) (sym are.1)
    (subst (λ (y : Ear). IsTold h r x.said y x.day) (sym are.0)
    (record {
      calls = ap (λ (y : Heard). y.calls) next ∙ s.calls;
      ends = ap (λ (y : Heard). y.broken) next ∙ s.heard.going ∙ sym s.goes;
      heard = λ e. subst (λ (y : Heard). IsHeard y x.ear x.day) (sym next) s.heard;
    })))

refused_told : (h : Heard) (r : Fields) (c : DayCode) (ear new : Ear) (day now : Day) (said : Outcome) → IsHeard h ear day → hear h r ≡ refuse (counted h) r c → AreSpoken new now said (without_batch (is_batch r) c (listening ear) day) → IsTold h r said new now
refused_told h r c ear new day now said k next are = by h.begun refl
  where
    by : (x : Bool) → h.begun ≡ x → IsTold h r said new now
    by true e =
        let is : said ≡ outcomes.Refuses c = are.2 ∙ ap (λ (b : Bool). if b then outcomes.Refuses c else outcomes.Breaks c) (k.begun ∙ e) in
        spoken_told h (refuse (counted h) r c) r said new now (record { ear = refused (is_batch r) (listening ear); day = day; said = outcomes.Refuses c }) next (are.0, are.1, is)
        (refused_heard (counted h) (listening ear) day r c (counted_heard h ear day k) e)
    by false e =
        let is : said ≡ outcomes.Breaks c = are.2 ∙ ap (λ (b : Bool). if b then outcomes.Refuses c else outcomes.Breaks c) (k.begun ∙ e) in
        let broke : hear h r ≡ record (counted h) { broken = true; calls = h.calls ++ Breaks (h.count + 1) c ∷ [] } = next ∙ refuse_breaks (counted h) r c e in
        subst (λ (y : Outcome). IsTold h r y new now) (sym is) (record {
          calls = ap (λ (y : Heard). y.calls) broke;
          ends = ap (λ (y : Heard). y.broken) broke;
          heard = λ f. cc f;
        })

pub told : (h : Heard) (r row : Fields) (ear new : Ear) (day now : Day) (said : Outcome) → row ≡ kept_row r → (ear.begun || is_late row) ≡ true → IsHeard h ear day → (is_entry row ≡ false → ear.coming.batch ≡ None)
    → Hears row ear day said new now → IsTold h r said new now
told h r row ear new day now said is begins k shut heard = elim heard [
  | inl over ↦
      let passes : (h.passing && is_entry r) ≡ true = (λ i. sym k.passing i && sym (row_entry row r is) i) ∙ over.0 in
      spoken_told h (passed h) r said new now _ (passed_next h r k.going passes) over.1 (record { heard = passed_heard h ear day k; calls = sym (append-nil h.calls); goes = refl })
  | inr other ↦ elim other [
    | inl adds ↦
        let listens : (h.passing && is_entry r) ≡ false = (λ i. sym k.passing i && sym (row_entry row r is) i) ∙ adds.0 in
        let code : first_code (judged_with h) r ≡ None = sym (row_code h ear day row r k is late) ∙ ap (λ (t : Tally). late_code t row) (sym k.tally) ∙ adds.1 in
        let same : row ≡ r = is ∙ fine_whole (judged_with h) r code in
        let piece : Piece = adds.2.0 in
        let states : States (tally_of (judged_with h)) r piece = subst (λ (f : Fields). States (tally_of (judged_with h)) f piece) same (subst (λ (t : Tally). States t row piece) k.tally adds.2.1) in
        spoken_told h (accept (counted h) r) r said new now _ (judged_next h r k.going none listens ∙ judge_fine (counted h) r code) adds.2.2
        (accept_spoken (counted h) (listening ear) day r piece (counted_heard h ear day k) (ap (λ (f : Fields). h.begun || is_late f) (sym same) ∙ late) none code states)
    | inr drops ↦
        let listens : (h.passing && is_entry r) ≡ false = (λ i. sym k.passing i && sym (row_entry row r is) i) ∙ drops.0 in
        let c : DayCode = drops.1.0 in
        let code : first_code (judged_with h) r ≡ Some c = sym (row_code h ear day row r k is late) ∙ ap (λ (t : Tally). late_code t row) (sym k.tally) ∙ drops.1.1 in
        refused_told h r c ear new day now said k (judged_next h r k.going none listens ∙ judge_bad (counted h) r c code)
        (subst (λ (b : Bool). AreSpoken new now said (without_batch b c (listening ear) day)) (row_batch row r is) drops.1.2)
  ]
]
  where
    none : is_entry r ≡ false → h.batch ≡ []
    none e = none_open (version_of (fields_of h.accepted)) h.batch ear.coming.batch (shut (row_entry row r is ∙ e)) k.coming

    late : (h.begun || is_late row) ≡ true
    late = ap (λ (b : Bool). b || is_late row) (sym k.begun) ∙ begins

-- ---- the end of a batch

-- then the record after it is heard as after the taken batch
heard_behind : (h : Heard) (r : Fields) → h.broken ≡ false → is_entry r ≡ false → hear h r ≡ hear (taken h) r
heard_behind h r going other =
    step_of h r going ∙ by (is_entry r) other h h.passing ∙ ap (λ (g : Heard). judge (counted g) r) (sym (taken_none (taken h) refl)) ∙ sym (step_of (taken h) r going ∙ by (is_entry r) other (taken h) h.passing)
  where
    by : (x : Bool) → x ≡ false → (g : Heard) (z : Bool) → (if x then (if z then passed g else judge (counted g) r) else judge (counted (taken g)) r) ≡ judge (counted (taken g)) r
    by true e g z = cc e
    by false e g z = refl

pub ended_told : (h : Heard) (r row : Fields) (ear : Ear) (day : Day) → row ≡ kept_row r → IsHeard h ear day → is_entry row ≡ false → is_some ear.coming.batch ≡ true
    → IsHeard (taken h) (closed ear) (with_open ear.coming.batch day) × ((taken h).calls ≡ h.calls ++ Takes ∷ []) × (hear h r ≡ hear (taken h) r)
ended_told h r row ear day is k other some = (
  taken_heard h ear day k,
  ap (λ (l : List Call). h.calls ++ l) (calls_some h.batch (sym (some_coming (version_of (fields_of h.accepted)) h.batch ear.coming.batch k.coming) ∙ some)),
  heard_behind h r k.going (sym (row_entry row r is) ∙ other),
)
