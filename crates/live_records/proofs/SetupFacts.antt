-- A reader of a live day has heard its setup: step by step, until the day is opened.
use Rattle.std.proofs.Common.{◌≡◌, ◌∙◌, ◌+◌, ◌≤◌, ◌++◌, ℕ, Bool, true, false, not, List, [], ◌∷◌, Option, Some, None, append-nil, length, length-append, refl, sym, ap, subst, arith}
use Rattle.std.specs.Prelude.{◌&&◌, ◌||◌, if◌then◌else◌}
use Rattle.std.specs.List.{list_any}
use Rattle.std.specs.Option.{option_map_or}
use Rattle.cash_amounts.specs.declared.limits.TheConstants.{MAX_ENTRIES}
use Rattle.batch_records.specs.Codes.{first_code}
use Rattle.batch_records.specs.DayRecord.{Day, Room}
use Rattle.batch_records.specs.Kinds.{is_message_kind, kind_of}
use Rattle.batch_records.specs.Made.{accounts_of, day_in, day_made, is_batch, is_day, is_entry, is_entry_kind, is_late, is_late_kind, messages_from, reserves_from, so_far_of, stops_of, systems_of, version_of}
use Rattle.batch_records.specs.Records.{Fields}
use Rattle.batch_records.specs.Rooms.{in_room}
use Rattle.batch_records.specs.Step.{after, after_kind}
use Rattle.batch_records.specs.Tallies.{IsSmall, is_behind_setup, is_setup_kind, tally_of}
use Rattle.batch_records.specs.declared.day.DayCode.{DayCode}
use Rattle.batch_records.specs.declared.day.Message.{Message}
use Rattle.batch_records.specs.declared.kinds.RecordKind.{RecordKind}
use Rattle.batch_records.specs.declared.kinds.RecordKind.TheVariants as record_kinds
use Rattle.batch_records.specs.declared.so_far.SoFar.{SoFar}
use Rattle.batch_records.specs.declared.tally.Tally.{Tally}
use Rattle.batch_records.proofs.CutCodes.{kept_code}
use Rattle.batch_records.proofs.CutWhole.{fine_whole}
use Rattle.batch_records.proofs.Fine.{IsFine, entry_place, fine, kind_known, started_as}
use Rattle.batch_records.proofs.KeptFacts.{in_step_first, in_step_next}
use Rattle.batch_records.proofs.StepFacts.{so_far_next}
use Rattle.record_rows.specs.Rows.{kept_row}
use Rattle.live_records.specs.Ears.{Counts, Fits, HasAllRoom, IsComing, IsHeard}
use Rattle.live_records.specs.Heard.{Breaks, Call, Stops, Takes, Heard, Numbered, accept, calls_of, counted, day_of, fields_of, has_end, hear, is_some_of, judge, judged_with, nothing, unless_whole}
use Rattle.live_records.specs.OpenRecord.{OpenBatch, with_open}
use Rattle.live_records.specs.Setups.{BreaksSetup, HearsSetup, IsOfSetup, IsSetup}
use Rattle.live_records.proofs.AcceptedFacts.{batch_late, entry_kind, fields_next, kept_hear, kept_nothing}
use Rattle.live_records.proofs.CallFacts.{after_of_kind}
use Rattle.live_records.proofs.EarRoom.{single_fits}
use Rattle.live_records.proofs.HearingFacts.{end_of, judge_bad, judge_fine, judged_next, made_in, refuse_breaks, rows_alone}
use Rattle.live_records.proofs.JudgedFacts.{told_so}

-- ---- no records

pub first_of_setup : IsOfSetup (so_far_of [])
unfolding so_far_of accounts_of stops_of messages_from reserves_from systems_of version_of
first_of_setup = record { step = in_step_first; messages = refl; stops = refl; begun = refl; in_batch = refl }

pub first_setup : IsSetup nothing (so_far_of [])
first_setup = record { kept = kept_nothing; going = refl; so_far = refl; shut = refl; begun = refl; passing = refl }

-- ---- a record without a code is neither a message, nor a stop, nor an entry

no_end : {A : Type 0} (xs : List A) (x : A) → xs ++ x ∷ [] ≡ xs → ⊥
no_end xs x e = omega (arith, length-append xs (x ∷ []), ap length e)

still_early : (kind : RecordKind) (s : SoFar) (r : Fields) → (after_kind kind s r).messages ≡ s.messages → (after_kind kind s r).stops ≡ s.stops → is_late_kind kind ≡ false
unfolding after_kind
still_early record_kinds.Ver s r m t = refl
still_early record_kinds.Day s r m t = refl
still_early record_kinds.As s r m t = refl
still_early record_kinds.Acc s r m t = refl
still_early record_kinds.Res s r m t = refl
still_early record_kinds.Bat s r m t = absurd (no_end s.messages _ m)
still_early record_kinds.Ent s r m t = refl
still_early record_kinds.Pay s r m t = absurd (no_end s.messages _ m)
still_early record_kinds.Liq s r m t = absurd (no_end s.messages _ m)
still_early record_kinds.Obj s r m t = absurd (no_end s.messages _ m)
still_early record_kinds.Cnf s r m t = absurd (no_end s.messages _ m)
still_early record_kinds.Cyc s r m t = absurd (no_end s.messages _ m)
still_early record_kinds.Tim s r m t = absurd (no_end s.stops _ t)
still_early record_kinds.End s r m t = refl

-- one that adds neither a message nor a stop is none
pub adds_none : (s new : SoFar) (r : Fields) → first_code s r ≡ None → new ≡ after s r → new.messages ≡ s.messages → new.stops ≡ s.stops → is_late r ≡ false
adds_none s new r code now m t =
    let known = kind_known s r code in
    let is : after s r ≡ after_kind known.0 s r = after_of_kind known.0 s r known.1 in
    let early : is_late_kind known.0 ≡ false = still_early known.0 s r (ap (λ (x : SoFar). x.messages) (sym is) ∙ ap (λ (x : SoFar). x.messages) (sym now) ∙ m) (ap (λ (x : SoFar). x.stops) (sym is) ∙ ap (λ (x : SoFar). x.stops) (sym now) ∙ t) in
    ap (λ (o : Option RecordKind). option_map_or is_late_kind o false) known.1 ∙ early

only_end : (kind : RecordKind) (s : SoFar) (r : Fields) → IsFine kind s r → IsOfSetup s → s.started ≡ true → (s.begun || not (is_setup_kind kind)) ≡ true → is_late_kind kind ≡ false → after_kind kind s r ≡ record s { ended = true; in_batch = false }
unfolding after_kind
only_end record_kinds.Ver s r fine f started behind late = let first : s.started ≡ false = started_as record_kinds.Ver s r fine in cc (first, started)
only_end record_kinds.Day s r fine f started behind late = let first : s.started ≡ false = started_as record_kinds.Day s r fine in cc (first, started)
only_end record_kinds.As s r fine f started behind late = cc (f.begun, behind)
only_end record_kinds.Acc s r fine f started behind late = cc (f.begun, behind)
only_end record_kinds.Res s r fine f started behind late = cc (f.begun, behind)
only_end record_kinds.Bat s r fine f started behind late = cc late
only_end record_kinds.Ent s r fine f started behind late = let placed : s.in_batch ≡ true = entry_place s r fine in let shut = f.in_batch in cc (placed, shut)
only_end record_kinds.Pay s r fine f started behind late = cc late
only_end record_kinds.Liq s r fine f started behind late = cc late
only_end record_kinds.Obj s r fine f started behind late = cc late
only_end record_kinds.Cnf s r fine f started behind late = cc late
only_end record_kinds.Cyc s r fine f started behind late = cc late
only_end record_kinds.Tim s r fine f started behind late = cc late
only_end record_kinds.End s r fine f started behind late = refl

-- after the setup, what is neither a message nor a stop is END
pub end_only : (s : SoFar) (r : Fields) → IsOfSetup s → first_code s r ≡ None → s.started ≡ true → is_behind_setup s r ≡ true → is_late r ≡ false → record s { ended = true; in_batch = false } ≡ after s r
end_only s r f code started behind late =
    let known = kind_known s r code in
    let here : (s.begun || not (is_setup_kind known.0)) ≡ true = rw known.1 at behind in
    let early : is_late_kind known.0 ≡ false = rw known.1 at late in
    sym (after_of_kind known.0 s r known.1 ∙ only_end known.0 s r (fine known.0 s r code known.1) f started here early)

no_entry : (s : SoFar) (r : Fields) → first_code s r ≡ None → s.in_batch ≡ false → is_entry r ≡ false
no_entry s r code shut = by (is_entry r) refl
  where
    by : (x : Bool) → is_entry r ≡ x → x ≡ false
    by false e = refl
    by true e =
        let placed : s.in_batch ≡ true = entry_place s r (fine record_kinds.Ent s r code (entry_kind r e)) in
        cc (placed, shut)

no_batch : (r : Fields) → is_late r ≡ false → is_batch r ≡ false
no_batch r late = by (is_batch r) refl
  where
    by : (x : Bool) → is_batch r ≡ x → x ≡ false
    by false e = refl
    by true e = let begins : is_late r ≡ true = batch_late r e in cc (begins, late)

no_calls : (o : Option RecordKind) → option_map_or is_late_kind o false ≡ false → (if option_map_or is_message_kind o false then Takes ∷ [] else if option_map_or is_late_kind o false then Stops ∷ [] else []) ≡ []
no_calls None e = refl
no_calls (Some record_kinds.Ver) e = refl
no_calls (Some record_kinds.Day) e = refl
no_calls (Some record_kinds.As) e = refl
no_calls (Some record_kinds.Acc) e = refl
no_calls (Some record_kinds.Res) e = refl
no_calls (Some record_kinds.Bat) e = cc e
no_calls (Some record_kinds.Ent) e = refl
no_calls (Some record_kinds.Pay) e = cc e
no_calls (Some record_kinds.Liq) e = cc e
no_calls (Some record_kinds.Obj) e = cc e
no_calls (Some record_kinds.Cnf) e = cc e
no_calls (Some record_kinds.Cyc) e = cc e
no_calls (Some record_kinds.Tim) e = cc e
no_calls (Some record_kinds.End) e = refl

-- ---- what they come to with it

record Stays (s new : SoFar) : Type 0 where
  messages : new.messages ≡ s.messages
  stops : new.stops ≡ s.stops
  begun : new.begun ≡ s.begun
  in_batch : new.in_batch ≡ false

stays : (kind : RecordKind) (s : SoFar) (r : Fields) → is_late_kind kind ≡ false → is_entry_kind kind ≡ false → Stays s (after_kind kind s r)
unfolding after_kind
stays record_kinds.Ver s r late entry = record { messages = refl; stops = refl; begun = refl; in_batch = refl }
stays record_kinds.Day s r late entry = record { messages = refl; stops = refl; begun = refl; in_batch = refl }
stays record_kinds.As s r late entry = record { messages = refl; stops = refl; begun = refl; in_batch = refl }
stays record_kinds.Acc s r late entry = record { messages = refl; stops = refl; begun = refl; in_batch = refl }
stays record_kinds.Res s r late entry = record { messages = refl; stops = refl; begun = refl; in_batch = refl }
stays record_kinds.Bat s r late entry = cc late
stays record_kinds.Ent s r late entry = cc entry
stays record_kinds.Pay s r late entry = cc late
stays record_kinds.Liq s r late entry = cc late
stays record_kinds.Obj s r late entry = cc late
stays record_kinds.Cnf s r late entry = cc late
stays record_kinds.Cyc s r late entry = cc late
stays record_kinds.Tim s r late entry = cc late
stays record_kinds.End s r late entry = record { messages = refl; stops = refl; begun = refl; in_batch = refl }

pub next_of_setup : (s : SoFar) (r : Fields) → IsOfSetup s → first_code s r ≡ None → is_late r ≡ false → IsOfSetup (after s r)
next_of_setup s r f code early =
    let known = kind_known s r code in
    let late : is_late_kind known.0 ≡ false = rw known.1 at early in
    let entry : is_entry_kind known.0 ≡ false = rw known.1 at (no_entry s r code f.in_batch) in
    let same : Stays s (after s r) = subst (λ (x : SoFar). Stays s x) (sym (after_of_kind known.0 s r known.1)) (stays known.0 s r late entry) in
    record { step = in_step_next s r code f.step; messages = same.messages ∙ f.messages; stops = same.stops ∙ f.stops; begun = same.begun ∙ f.begun; in_batch = same.in_batch }

-- ---- what is heard with it

-- a record is judged by what the records of a setup come to
judged_so : (h : Heard) (s : SoFar) → IsOfSetup s → IsSetup h s → judged_with h ≡ s
judged_so h s f k =
    (λ i. told_so (so_far_of (rows_alone h k.shut i)) (k.begun i) (is_some_of (k.shut i)))
    ∙ (λ i. told_so (sym k.so_far i) false false)
    ∙ (λ i. told_so s (sym f.begun i) (sym f.in_batch i))

code_so : (h : Heard) (s : SoFar) (row r : Fields) → IsOfSetup s → IsSetup h s → row ≡ kept_row r → first_code (judged_with h) r ≡ first_code s row
code_so h s row r f k is = ap (λ (x : SoFar). first_code x r) (judged_so h s f k) ∙ sym (kept_code s r) ∙ ap (first_code s) (sym is)

judged_now : (h : Heard) (s : SoFar) (r : Fields) → IsSetup h s → hear h r ≡ judge (counted h) r
judged_now h s r k = judged_next h r k.going (λ e. k.shut) (ap (λ (p : Bool). p && is_entry r) k.passing)

accept_single : (h : Heard) (r : Fields) → is_entry r ≡ false → is_batch r ≡ false → accept h r ≡ record h { accepted = h.accepted ++ (h.count, r) ∷ []; begun = h.begun || is_late r; calls = h.calls ++ calls_of r }
unfolding accept
accept_single h r entry batch = λ i.
    if entry i then unless_whole (record h { batch = h.batch ++ (h.count, r) ∷ [] })
    else if batch i then unless_whole (record h { batch = (h.count, r) ∷ []; begun = true })
    else record h { accepted = h.accepted ++ (h.count, r) ∷ []; begun = h.begun || is_late r; calls = h.calls ++ calls_of r }

pub hears_setup : (s new : SoFar) (row : Fields) → IsOfSetup s → is_late row ≡ false → first_code s row ≡ None → new ≡ after s row → HearsSetup row s new
hears_setup s new row f early none now h r is k =
    let code : first_code (judged_with h) r ≡ None = code_so h s row r f k is ∙ none in
    let same : row ≡ r = is ∙ fine_whole (judged_with h) r code in
    let own : first_code s r ≡ None = ap (first_code s) (sym same) ∙ none in
    let late : is_late r ≡ false = ap is_late (sym same) ∙ early in
    let next : hear h r ≡ record (counted h) { accepted = h.accepted ++ (h.count + 1, r) ∷ []; begun = h.begun || is_late r; calls = h.calls ++ calls_of r } =
    judged_now h s r k ∙ judge_fine (counted h) r code ∙ accept_single (counted h) r (no_entry s r own f.in_batch) (no_batch r late) in
    let rows : fields_of (h.accepted ++ (h.count + 1, r) ∷ []) ≡ fields_of h.accepted ++ r ∷ [] = fields_next h.accepted (h.count + 1, r) in
    let comes : so_far_of (fields_of (h.accepted ++ (h.count + 1, r) ∷ [])) ≡ after s r =
    ap so_far_of rows ∙ so_far_next (fields_of h.accepted) r (ap (λ (x : SoFar). first_code x r) (sym k.so_far) ∙ own) ∙ ap (λ (x : SoFar). after x r) (sym k.so_far) in (
      record {
        kept = kept_hear h r k.kept;
        going = ap (λ (g : Heard). g.broken) next ∙ k.going;
        so_far = now ∙ ap (after s) same ∙ sym comes ∙ ap (λ (g : Heard). so_far_of (fields_of g.accepted)) (sym next);
        shut = ap (λ (g : Heard). g.batch) next ∙ k.shut;
        begun = ap (λ (g : Heard). g.begun) next ∙ (λ i. k.begun i || late i);
        passing = ap (λ (g : Heard). g.passing) next;
      },
      ap (λ (g : Heard). g.calls) next ∙ ap (λ (l : List Call). h.calls ++ l) (no_calls (kind_of r) late) ∙ append-nil h.calls,
    )

pub breaks_setup : (s : SoFar) (row : Fields) (c : DayCode) → IsOfSetup s → first_code s row ≡ Some c → BreaksSetup row s c
breaks_setup s row c f found h r is k =
    let code : first_code (judged_with h) r ≡ Some c = code_so h s row r f k is ∙ found in
    let next : hear h r ≡ record (counted h) { broken = true; calls = h.calls ++ Breaks (h.count + 1) c ∷ [] } =
    judged_now h s r k ∙ judge_bad (counted h) r c code ∙ refuse_breaks (counted h) r c k.begun in
    (ap (λ (g : Heard). g.broken) next, ap (λ (g : Heard). g.calls) next)

-- END is heard, or else all stays
pub either_setup : (heard : Bool) (s new : SoFar) (row : Fields) → IsOfSetup s → first_code s row ≡ None → (heard ≡ true → new ≡ after s row) → (heard ≡ false → new ≡ s) → is_late row ≡ not heard → IsOfSetup new
either_setup true s new row f code now same late = subst IsOfSetup (sym (now refl)) (next_of_setup s row f code late)
either_setup false s new row f code now same late = subst IsOfSetup (sym (same refl)) f

pub end_of_setup : (h : Heard) (s : SoFar) → IsSetup h s → s.ended ≡ has_end h
end_of_setup h s k = ap (λ (x : SoFar). x.ended) k.so_far ∙ end_of (fields_of h.accepted)

-- ---- the day is opened

none_comes : (version : ℕ) (batch : List Numbered) (o : Option Message) → batch ≡ [] → o ≡ None → IsComing version batch o
none_comes version [] None shut none = tt
none_comes version [] (Some m) shut none = cc none
none_comes version (x ∷ batch) o shut none = cc shut

started_of : (rows : List Fields) → (so_far_of rows).started ≡ list_any is_day rows
unfolding so_far_of
started_of rows = refl

own_room : (day other : Day) (room : Room) → day ≡ in_room room other → day ≡ in_room day.room other
own_room day other room e = e ∙ ap (λ (x : Room). in_room x other) (sym (ap (λ (d : Day). d.room) e))

pub opened_heard : (s : SoFar) (tally : Tally) (coming : OpenBatch) (day : Day) (room : Room) → IsOfSetup s → s.started ≡ true → coming.batch ≡ None → tally ≡ tally_of s → day ≡ record (day_in s) { room = room } → (h : Heard) → IsSetup h s
    → IsHeard h (record { tally = tally; before = tally; coming = coming; begun = false; passing = false }) day
opened_heard s tally coming day room f started none numbers is h k =
    let judged = judged_so h s f k in
    let made : day_of h ≡ day_in s = made_in (fields_of h.accepted) ∙ ap day_in (sym k.so_far) in
    record {
      kept = k.kept;
      going = k.going;
      started = sym (started_of (fields_of h.accepted)) ∙ ap (λ (x : SoFar). x.started) (sym k.so_far) ∙ started;
      tally = numbers ∙ ap tally_of (sym judged);
      before = numbers ∙ ap tally_of (sym judged) ∙ (λ i. tally_of (judged_with (record h { batch = k.shut i })));
      accepted = own_room day (day_of h) room (is ∙ ap (in_room room) (sym made));
      coming = none_comes (version_of (fields_of h.accepted)) h.batch coming.batch k.shut none;
      whole = ap (λ (o : Option Message). with_open o (day_of h)) none ∙ ap day_made (sym (rows_alone h k.shut));
      begun = sym k.begun;
      passing = sym k.passing;
    }

counts_open : (s : SoFar) (room : Room) → IsOfSetup s → IsSmall (tally_of s) → Counts 0 0 0 (tally_of s) (record (day_in s) { room = room })
unfolding tally_of
counts_open s room f small = record { small = small; messages = omega arith; entries = omega (arith, f.step.entries); stops = omega arith; last = omega arith }

shut_open : (s : SoFar) → IsOfSetup s → (tally_of s).in_batch ≡ false
unfolding tally_of
shut_open s f = f.in_batch

none_open_fits : (tally : Tally) (coming : OpenBatch) (day : Day) → Counts 0 0 0 tally day → tally.in_batch ≡ false → coming.batch ≡ None → HasAllRoom day.room → MAX_ENTRIES ≤ coming.most
    → Fits (record { tally = tally; before = tally; coming = coming; begun = false; passing = false }) day
none_open_fits tally coming day counts shut none room most =
    single_fits (record { tally = tally; before = tally; coming = coming; begun = false; passing = false }) day none shut counts room most

pub opened_fits : (s : SoFar) (tally : Tally) (coming : OpenBatch) (day : Day) (room : Room) → IsOfSetup s → IsSmall tally → coming.batch ≡ None → MAX_ENTRIES ≤ coming.most → HasAllRoom room → tally ≡ tally_of s → day ≡ record (day_in s) { room = room }
    → Fits (record { tally = tally; before = tally; coming = coming; begun = false; passing = false }) day
opened_fits s tally coming day room f small none most fits numbers is =
    subst (λ (t : Tally). Fits (record { tally = t; before = t; coming = coming; begun = false; passing = false }) day) (sym numbers)
    (subst (λ (d : Day). Fits (record { tally = tally_of s; before = tally_of s; coming = coming; begun = false; passing = false }) d) (sym is)
    (none_open_fits (tally_of s) coming (record (day_in s) { room = room }) (counts_open s room f (subst IsSmall numbers small)) (shut_open s f) none fits most))
