-- What is told of one record more, after what was told.
use Rattle.std.proofs.Common.{◌≡◌, ◌∙◌, ◌+◌, ◌++◌, ℕ, suc, Bool, true, false, not, List, [], ◌∷◌, append_assoc, append-nil, refl, sym, ap, subst, arith, zero-add, add-zero}
use Rattle.std.specs.Prelude.{◌&&◌, if◌then◌else◌}
use Rattle.std.proofs.lemmas.Bool.{and_right}
use Rattle.batch_records.specs.DayRecord.{Day}
use Rattle.batch_records.specs.Made.{so_far_of}
use Rattle.batch_records.specs.Records.{Fields, records_of}
use Rattle.batch_records.specs.Sound.{is_sound}
use Rattle.batch_records.proofs.KeptFacts.{day_sound}
use Rattle.program_answers.specs.Answers.{refusal_text}
use Rattle.live_records.specs.Ears.{IsHeard}
use Rattle.live_records.specs.Heard.{Call, Takes, Stops, Refuses, Breaks, Heard, day_of, fields_of, has_end, heard, heard_in}
use Rattle.live_records.specs.WholeRecords.{cut, has_ended, is_over, whole_records}
use Rattle.record_rows.specs.Input.{rows_read}
use Rattle.record_rows.specs.Lines.{line_of}
use Rattle.record_rows.specs.declared.line.Line.{Line}
use Rattle.record_rows.specs.declared.line.Line.TheVariants as lines
use Rattle.live_records.specs.declared.ear.Ear.{Ear}
use Rattle.live_day.specs.Events.{events_in}
use Rattle.live_day.specs.Told.{has_come, is_day_over, refused_text, told, told_calls, told_end, told_event, told_in}
use Rattle.live_day.proofs.FrontFacts.{calls_same, told_same}
use Rattle.live_day.proofs.ToldFronts.{quiet_all}

-- ---- a day that was heard is sound

pub sound_heard : (h : Heard) (ear : Ear) (day : Day) → IsHeard h ear day → is_sound day ≡ true
unfolding so_far_of
sound_heard h ear day i = subst (λ (d : Day). is_sound d ≡ true) (sym i.accepted) (day_sound (so_far_of (fields_of h.accepted)) i.kept.day.step i.started)

-- ---- what is told of calls, one part after another

pub calls_then : (day : Day) (k : ℕ) (xs ys : List Call) → told_calls day k (xs ++ ys) ≡ told_calls day k xs ++ told_calls day (k + events_in xs) ys
unfolding told_calls
calls_then day k [] ys = ap (λ (n : ℕ). told_calls day n ys) (sym (add-zero k))
calls_then day k (Takes ∷ xs) ys =
    let next : k + 1 + events_in xs ≡ k + suc (events_in xs) = omega arith in
    ap (λ (l : List ℕ). told_event day k ++ l) (calls_then day (k + 1) xs ys) ∙ sym (append_assoc (told_event day k) (told_calls day (k + 1) xs) (told_calls day (k + 1 + events_in xs) ys))
    ∙ ap (λ (n : ℕ). (told_event day k ++ told_calls day (k + 1) xs) ++ told_calls day n ys) next
calls_then day k (Stops ∷ xs) ys =
    let next : k + 1 + events_in xs ≡ k + suc (events_in xs) = omega arith in
    ap (λ (l : List ℕ). told_event day k ++ l) (calls_then day (k + 1) xs ys) ∙ sym (append_assoc (told_event day k) (told_calls day (k + 1) xs) (told_calls day (k + 1 + events_in xs) ys))
    ∙ ap (λ (n : ℕ). (told_event day k ++ told_calls day (k + 1) xs) ++ told_calls day n ys) next
calls_then day k (Refuses m c ∷ xs) ys =
    ap (λ (l : List ℕ). refused_text m c ++ l) (calls_then day k xs ys) ∙ sym (append_assoc (refused_text m c) (told_calls day k xs) (told_calls day (k + events_in xs) ys))
calls_then day k (Breaks m c ∷ xs) ys =
    ap (λ (l : List ℕ). refusal_text m c ++ l) (calls_then day k xs ys) ∙ sym (append_assoc (refusal_text m c) (told_calls day k xs) (told_calls day (k + events_in xs) ys))

-- what was called for is told the same
told_still : (records more : List Fields) → told_calls (day_of (heard (records ++ more))) 0 (heard records).calls ≡ told_calls (day_of (heard records)) 0 (heard records).calls
told_still records more = by (heard records).begun refl
  where
    by : (x : Bool) → (heard records).begun ≡ x → told_calls (day_of (heard (records ++ more))) 0 (heard records).calls ≡ told_calls (day_of (heard records)) 0 (heard records).calls
    by true e = told_same records more e
    by false e =
        let none = (quiet_all records e).events in
        calls_same (day_of (heard records)) (day_of (heard (records ++ more))) 0 0 (heard records).calls (λ i l. absurd (omega (arith, l))) (omega (arith, none))

-- what further records call for is told of the longer day, after what was told
pub told_next : (records more : List Fields) (ys : List Call) → (heard (records ++ more)).calls ≡ (heard records).calls ++ ys
    → told_calls (day_of (heard (records ++ more))) 0 (heard (records ++ more)).calls ≡ told_calls (day_of (heard records)) 0 (heard records).calls ++ told_calls (day_of (heard (records ++ more))) (events_in (heard records).calls) ys
told_next records more ys calls =
    let whole = day_of (heard (records ++ more)) in
    ap (told_calls whole 0) calls ∙ calls_then whole 0 (heard records).calls ys
    ∙ (λ i. told_still records more i ++ told_calls whole (zero-add (events_in (heard records).calls) i) ys)

-- ---- what is told of bytes whose last line isn't a line END

not_ended : (l : Line) → is_over l ≡ false → has_ended false l ≡ false
not_ended lines.Begun e = refl
not_ended lines.HasE e = refl
not_ended lines.HasEN e = refl
not_ended lines.HasEND e = refl
not_ended lines.Other e = refl
not_ended lines.Over e = cc e

without_end : (x : Bool) (text last : List ℕ) → x ≡ false → text ++ (if x then last else []) ≡ text
without_end true text last e = cc e
without_end false text last e = append-nil text

-- it is what the records call for that have come whole
pub told_open : (input : List ℕ) → is_over (line_of input) ≡ false → told input ≡ told_calls (day_of (heard (rows_read input))) 0 (heard (rows_read input)).calls
unfolding told_in whole_records
told_open input e =
    let rows : whole_records false input ≡ rows_read input = ap (λ (b : Bool). if b then records_of (cut input) else rows_read input) (not_ended (line_of input) e) in
    without_end (is_day_over false input) (told_calls (day_of (heard_in false input)) 0 (heard_in false input).calls) (told_end (day_of (heard_in false input)))
    (and_right (has_end (heard_in false input) && not (heard_in false input).broken) (has_come false input) e)
    ∙ ap (λ (records : List Fields). told_calls (day_of (heard records)) 0 (heard records).calls) rows
