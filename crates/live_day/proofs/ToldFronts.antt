-- What is told of a front of an input begins what is told of the input.
use Rattle.std.proofs.Common.{◌≡◌, ◌∙◌, ◌+◌, ◌++◌, ℕ, Bool, true, false, not, List, [], ◌∷◌, Some, None, Option, append_assoc, append-nil, refl, sym, ap, subst, arith, zero-add}
use Rattle.std.specs.Prelude.{◌&&◌, ◌||◌, if◌then◌else◌, fold}
use Rattle.std.specs.Option.{option_map_or}
use Rattle.batch_records.specs.Codes.{first_code}
use Rattle.batch_records.specs.Kinds.{by_kind, is_message_kind, kind_of}
use Rattle.batch_records.specs.Made.{is_batch, is_entry, is_late, is_late_kind, version_of}
use Rattle.batch_records.specs.Records.{Fields}
use Rattle.batch_records.specs.declared.day.DayCode.{DayCode}
use Rattle.batch_records.specs.declared.kinds.RecordKind.{RecordKind}
use Rattle.batch_records.specs.declared.kinds.RecordKind.TheVariants as record_kinds
use Rattle.batch_records.proofs.BoolFacts.{and_both, or_neither}
use Rattle.batch_records.proofs.Fine.{entry_place, fine}
use Rattle.record_rows.specs.Lines.{line_from, line_of}
use Rattle.record_rows.specs.declared.line.Line.{Line}
use Rattle.record_rows.specs.declared.line.Line.TheVariants as lines
use Rattle.live_records.specs.Fates.{IsFront}
use Rattle.live_records.specs.Heard.{Call, Takes, Stops, Refuses, Breaks, Heard, Numbered, accept, calls_of, calls_of_batch, counted, day_of, fields_of, has_all, has_end, hear, heard, heard_in, is_some_of, judge, judged_with, nothing, numbers_of, passed, refuse, taken, unless_whole}
use Rattle.live_records.specs.WholeRecords.{is_over, whole_records}
use Rattle.live_records.proofs.AcceptedFacts.{entry_kind}
use Rattle.live_records.proofs.Continuing.{broken_stays, grows_hear, records_continue}
use Rattle.live_records.proofs.CutFacts.{front_over, is_over_or, line_append, over_stays, whole_front}
use Rattle.live_records.proofs.FateFacts.{step_of}
use Rattle.live_day.specs.Events.{events_in}
use Rattle.live_day.specs.Told.{has_come, is_day_over, told, told_calls, told_end, told_in}
use Rattle.live_day.proofs.FrontFacts.{calls_same, calls_split, told_further}

-- ---- before the day has begun no call has an event

pub events_append : (xs ys : List Call) → events_in (xs ++ ys) ≡ events_in xs + events_in ys
events_append [] ys = sym (zero-add (events_in ys))
events_append (Takes ∷ xs) ys = let more = events_append xs ys in omega (arith, more)
events_append (Stops ∷ xs) ys = let more = events_append xs ys in omega (arith, more)
events_append (Refuses n c ∷ xs) ys = events_append xs ys
events_append (Breaks n c ∷ xs) ys = events_append xs ys

-- no event, and no batch
pub record IsQuiet (h : Heard) : Type 0 where
  pub events : events_in h.calls ≡ 0
  pub batch : h.batch ≡ []

message_late : (r : Fields) → by_kind false is_message_kind r ≡ true → is_late r ≡ true
message_late r e = by (kind_of r) e
  where
    by : (o : Option RecordKind) → option_map_or is_message_kind o false ≡ true → option_map_or (λ kind. is_late_kind kind) o false ≡ true
    by None e = cc e
    by (Some record_kinds.Tim) e = refl
    by (Some _) e = e

no_event : (r : Fields) → is_late r ≡ false → events_in (calls_of r) ≡ 0
no_event r e = by (by_kind false is_message_kind r) (is_late r) (λ m. message_late r m) e
  where
    by : (x y : Bool) → (x ≡ true → y ≡ true) → y ≡ false → events_in (if x then Takes ∷ [] else if y then Stops ∷ [] else []) ≡ 0
    by true y h e = let clash : true ≡ false = sym (h refl) ∙ e in cc clash
    by false true h e = cc e
    by false false h e = refl

begun_whole : (h : Heard) → (unless_whole h).begun ≡ h.begun
begun_whole h = by (has_all (version_of (fields_of h.accepted)) h.batch)
  where
    by : (x : Bool) → (if x then taken h else h).begun ≡ h.begun
    by true = refl
    by false = refl

quiet_accept : (h : Heard) (r : Fields) → IsQuiet h → first_code (judged_with h) r ≡ None → (accept h r).begun ≡ false → IsQuiet (accept h r)
unfolding accept
quiet_accept h r q e = by (is_entry r) (is_batch r) refl
  where
    by : (x y : Bool) → is_entry r ≡ x
        → (if x then unless_whole (record h { batch = h.batch ++ (h.count, r) ∷ [] }) else if y then unless_whole (record h { batch = (h.count, r) ∷ []; begun = true })
        else record h { accepted = h.accepted ++ (h.count, r) ∷ []; begun = h.begun || is_late r; calls = h.calls ++ calls_of r }).begun ≡ false
        → IsQuiet (if x then unless_whole (record h { batch = h.batch ++ (h.count, r) ∷ [] }) else if y then unless_whole (record h { batch = (h.count, r) ∷ []; begun = true })
        else record h { accepted = h.accepted ++ (h.count, r) ∷ []; begun = h.begun || is_late r; calls = h.calls ++ calls_of r })
    by true y is b =
        let some : is_some_of h.batch ≡ true = entry_place (judged_with h) r (fine record_kinds.Ent (judged_with h) r e (entry_kind r is)) in
        let clash : false ≡ true = ap is_some_of (sym q.batch) ∙ some in
        cc clash
    by false true is b = let clash : true ≡ false = sym (begun_whole (record h { batch = (h.count, r) ∷ []; begun = true })) ∙ b in cc clash
    by false false is b = record {
      events = let both = events_append h.calls (calls_of r) in let old = q.events in let new = no_event r (or_neither h.begun (is_late r) b).1 in omega (arith, both, old, new);
      batch = q.batch;
    }

quiet_refuse : (h : Heard) (r : Fields) (c : DayCode) → IsQuiet h → h.begun ≡ false → IsQuiet (refuse h r c)
unfolding refuse
quiet_refuse h r c q b = by h.begun b
  where
    by : (x : Bool) → x ≡ false → IsQuiet (if x then record h { batch = []; dropped = h.dropped ++ numbers_of h.batch; passing = is_batch r || is_some_of h.batch; calls = h.calls ++ Refuses h.count c ∷ [] }
        else record h { broken = true; calls = h.calls ++ Breaks h.count c ∷ [] })
    by true e = cc e
    by false e = record { events = let both = events_append h.calls (Breaks h.count c ∷ []) in let old = q.events in omega (arith, both, old); batch = q.batch }

quiet_judge : (h : Heard) (r : Fields) → IsQuiet h → h.begun ≡ false → (judge h r).begun ≡ false → IsQuiet (judge h r)
quiet_judge h r q b = by (first_code (judged_with h) r) refl
  where
    by : (o : Option DayCode) → first_code (judged_with h) r ≡ o → (option_map_or (refuse h r) o (accept h r)).begun ≡ false → IsQuiet (option_map_or (refuse h r) o (accept h r))
    by None e after = quiet_accept h r q e after
    by (Some c) e after = quiet_refuse h r c q b

quiet_taken : (h : Heard) → IsQuiet h → IsQuiet (taken h)
quiet_taken h q = record {
  events = let both = events_append h.calls (calls_of_batch h.batch) in let old = q.events in let none : events_in (calls_of_batch h.batch) ≡ 0 = ap (λ (l : List Numbered). events_in (calls_of_batch l)) q.batch in omega (arith, both, old, none);
  batch = refl;
}

quiet_hear : (h : Heard) (r : Fields) → IsQuiet h → h.begun ≡ false → (hear h r).begun ≡ false → IsQuiet (hear h r)
quiet_hear h r q b = by h.broken refl
  where
    ways : (x z : Bool) → (if x then (if z then passed h else judge (counted h) r) else judge (counted (taken h)) r).begun ≡ false → IsQuiet (if x then (if z then passed h else judge (counted h) r) else judge (counted (taken h)) r)
    ways true true after = record { events = q.events; batch = q.batch }
    ways true false after = quiet_judge (counted h) r (record { events = q.events; batch = q.batch }) b after
    ways false z after = let t = quiet_taken h q in quiet_judge (counted (taken h)) r (record { events = t.events; batch = t.batch }) b after

    by : (x : Bool) → h.broken ≡ x → (hear h r).begun ≡ false → IsQuiet (hear h r)
    by true e after = subst IsQuiet (sym (broken_stays h r e)) q
    by false e after = subst IsQuiet (sym (step_of h r e)) (ways (is_entry r) h.passing (ap (λ (g : Heard). g.begun) (sym (step_of h r e)) ∙ after))

begun_from : (g : Heard) (rows : List Fields) → g.begun ≡ true → (fold hear g rows).begun ≡ true
begun_from g [] e = e
begun_from g (x ∷ rows) e = begun_from (hear g x) rows ((grows_hear g x).begun e)

quiet_from : (h : Heard) (records : List Fields) → IsQuiet h → h.begun ≡ false → (fold hear h records).begun ≡ false → IsQuiet (fold hear h records)
quiet_from h [] q b after = q
quiet_from h (r ∷ records) q b after = by (hear h r).begun refl (λ e. quiet_from (hear h r) records (quiet_hear h r q b e) e after)
  where
    by : (x : Bool) → (hear h r).begun ≡ x → ((hear h r).begun ≡ false → IsQuiet (fold hear (hear h r) records)) → IsQuiet (fold hear (hear h r) records)
    by false e go = go e
    by true e go = let clash : true ≡ false = sym (begun_from (hear h r) records e) ∙ after in cc clash

pub quiet_all : (records : List Fields) → (heard records).begun ≡ false → IsQuiet (heard records)
unfolding heard
quiet_all records after = quiet_from nothing records (record { events = refl; batch = refl }) refl after

-- ---- records

pub told_on : (records more : List Fields) → (rest : List ℕ) × (told_calls (day_of (heard (records ++ more))) 0 (heard (records ++ more)).calls ≡ told_calls (day_of (heard records)) 0 (heard records).calls ++ rest)
told_on records more = by (heard records).begun refl
  where
    by : (x : Bool) → (heard records).begun ≡ x → (rest : List ℕ) × (told_calls (day_of (heard (records ++ more))) 0 (heard (records ++ more)).calls ≡ told_calls (day_of (heard records)) 0 (heard records).calls ++ rest)
    by true e = told_further records more e
    by false e =
        let on = (records_continue records more).calls in
        let split = calls_split (day_of (heard (records ++ more))) 0 (heard records).calls on.0 in
        let none = (quiet_all records e).events in (
          split.0,
          ap (told_calls (day_of (heard (records ++ more))) 0) on.1 ∙ split.1
              ∙ ap (λ l. l ++ split.0) (calls_same (day_of (heard records)) (day_of (heard (records ++ more))) 0 0 (heard records).calls (λ i l. absurd (omega (arith, l))) (omega (arith, none))),
        )

-- ---- bytes

-- where the day is over nothing that follows counts
pub over_same : (all : Bool) (front rest : List ℕ) → line_of front ≡ lines.Over → told_in all (front ++ rest) ≡ told front
unfolding told_in
over_same all front rest over =
    let there : line_of (front ++ rest) ≡ lines.Over = line_append lines.Begun front rest ∙ ap (λ (l : Line). line_from l rest) over ∙ over_stays rest in
    let same : whole_records all (front ++ rest) ≡ whole_records false front = front_over all front rest over in
    let come : has_come all (front ++ rest) ≡ has_come false front = (λ i. all || is_over (there i)) ∙ always all ∙ sym (λ i. false || is_over (over i)) in
    λ i. told_calls (day_of (heard (same i))) 0 (heard (same i)).calls ++ (if has_end (heard (same i)) && not (heard (same i)).broken && come i then told_end (day_of (heard (same i))) else [])
  where
    always : (x : Bool) → (x || true) ≡ true
    always true = refl
    always false = refl

going_same : (all : Bool) (front rest : List ℕ) → is_day_over false front ≡ false → IsFront (told front) (told_in all (front ++ rest))
unfolding told_in
going_same all front rest going =
    let there = whole_front all front rest in
    let on = told_on (whole_records false front) there.0 in
    let last : List ℕ = if is_day_over all (front ++ rest) then told_end (day_of (heard_in all (front ++ rest))) else [] in (
      on.0 ++ last,
      ap (λ (rows : List Fields). told_calls (day_of (heard rows)) 0 (heard rows).calls ++ last) there.1
          ∙ ap (λ l. l ++ last) on.1
          ∙ append_assoc (told_calls (day_of (heard_in false front)) 0 (heard_in false front).calls) on.0 last
          ∙ ap (λ l. l ++ (on.0 ++ last)) (sym (append-nil (told_calls (day_of (heard_in false front)) 0 (heard_in false front).calls)) ∙ ap (λ b. told_calls (day_of (heard_in false front)) 0 (heard_in false front).calls ++ (if b then told_end (day_of (heard_in false front)) else [])) (sym going)),
    )

pub fronts_told : (all : Bool) (front rest : List ℕ) → IsFront (told front) (told_in all (front ++ rest))
fronts_told all front rest = by (is_day_over false front) refl
  where
    by : (x : Bool) → is_day_over false front ≡ x → IsFront (told front) (told_in all (front ++ rest))
    by true e =
        let come : is_over (line_of front) ≡ true = (and_both _ (has_come false front) e).1 in
        ([], over_same all front rest (is_over_or (line_of front) come) ∙ sym (append-nil (told front)))
    by false e = going_same all front rest e
