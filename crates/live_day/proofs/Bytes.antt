-- What is told of bytes, whether they settle the answer, and the answer, by the records that a reader has of them.
use Rattle.std.proofs.Common.{◌≡◌, ◌∙◌, ◌+◌, ◌-◌, ◌≤◌, ◌<◌, ◌++◌, ℕ, Bool, true, false, not, List, [], ◌∷◌, append-nil, length, length-append, refl, sym, ap, arith, take, inl, inr}
use Rattle.std.specs.Prelude.{◌&&◌, ◌||◌, if◌then◌else◌, nat_le}
use Rattle.std.proofs.lemmas.Bool.{cases_Bool}
use Rattle.std.proofs.lemmas.List.{take-append-le}
use Rattle.batch_records.specs.Records.{Fields}
use Rattle.batch_records.specs.declared.day.DayCode.TheVariants as day_codes
use Rattle.batch_records.proofs.BoolFacts.{le_failed, le_meant, or_either, or_neither}
use Rattle.program_answers.specs.Answers.{Answer, refusal_text, size_text}
use Rattle.record_rows.specs.Input.{place_of, rows_read}
use Rattle.record_rows.specs.Lines.{line_from, line_of}
use Rattle.record_rows.specs.Machine.{open_rows}
use Rattle.record_rows.specs.declared.line.Line.{Line}
use Rattle.record_rows.specs.declared.line.Line.TheVariants as lines
use Rattle.live_records.specs.Heard.{Heard, day_of, has_end, heard, heard_in}
use Rattle.live_records.specs.WholeRecords.{cut, has_ended, is_over, whole_records}
use Rattle.live_records.proofs.Continuing.{bytes_continue, records_continue}
use Rattle.live_records.proofs.CutFacts.{cut_there, cut_whole, ended_as_seen, is_over_or, line_append, over_stays, read_as_seen}
use Rattle.live_day.specs.Answers.{is_all, is_settled_by, live_answer, longest_input, looked_at}
use Rattle.live_day.specs.NextRecord.{answer_with, told_last, told_of}
use Rattle.live_day.specs.Told.{has_come, told, told_calls, told_end, told_in}
use Rattle.live_day.proofs.ResumeFacts.{looked_front}
use Rattle.live_day.proofs.SettledFacts.{answer_broken, answer_by, answer_of, broken_answer, broken_text, live_is, looked_whole, not_so, or_first, over_answer}
use Rattle.live_day.proofs.ToldFronts.{over_same}

-- ---- where an input is cut

not_over : (line : Line) → is_over line ≡ false → line ≡ lines.Over → ⊥
not_over line e is = let clash : true ≡ false = sym (ap is_over is) ∙ e in cc clash

-- after the byte that ends its line END
pub cut_at : (front : List ℕ) (b : ℕ) → is_over (line_of front) ≡ false → line_of (front ++ b ∷ []) ≡ lines.Over → cut (front ++ b ∷ []) ≡ front ++ b ∷ []
cut_at front b going over = cut_there front [] b (not_over (line_of front) going) over

-- nowhere, where no line END has its line end
pub cut_open : (input : List ℕ) → is_over (line_of input) ≡ false → cut input ≡ input
cut_open input going = cut_whole input (not_over (line_of input) going)

-- ---- a bad record ended the run

-- the records that have come whole by their line ends stand in front of the whole records
rows_begin : (input : List ℕ) → cut input ≡ input → (more : List Fields) × (whole_records false input ≡ rows_read input ++ more)
rows_begin input whole = by (has_ended false (line_of input)) refl
  where
    by : (x : Bool) → has_ended false (line_of input) ≡ x → (more : List Fields) × (whole_records false input ≡ rows_read input ++ more)
    by true e = (open_rows (place_of input), ended_as_seen false input e whole)
    by false e = ([], read_as_seen false input e ∙ sym (append-nil (rows_read input)))

heard_broken : (input : List ℕ) → cut input ≡ input → (heard (rows_read input)).broken ≡ true → heard_in false input ≡ heard (rows_read input)
heard_broken input whole broken =
    let begin = rows_begin input whole in
    ap heard begin.1 ∙ (records_continue (rows_read input) begin.0).broken broken

settled_broken : (input : List ℕ) → (heard_in false (looked_at input)).broken ≡ true → is_settled_by input ≡ true
settled_broken input broken = ap (λ (x : Bool). x || has_come false (looked_at input) || not (is_all input)) broken

-- an input that isn't too long is looked at whole
answer_short : (input : List ℕ) → length input ≤ longest_input → live_answer input ≡ answer_by (is_all input) (input ++ [])
answer_short input l = live_is input ∙ ap (answer_by (is_all input)) (looked_whole input l ∙ sym (append-nil input))

pub broken_settles : (input : List ℕ) → length input ≤ longest_input → cut input ≡ input → (heard (rows_read input)).broken ≡ true
    → (is_settled_by input ≡ true) × (told (looked_at input) ≡ told_of (rows_read input)) × (live_answer input ≡ record { status = 3; text = told_of (rows_read input) })
broken_settles input l whole broken =
    let seen : looked_at input ≡ input = looked_whole input l in
    let same : heard_in false input ≡ heard (rows_read input) = heard_broken input whole broken in
    let ended : (heard_in false input).broken ≡ true = ap (λ (h : Heard). h.broken) same ∙ broken in
    let text : told_in false input ≡ told_of (rows_read input) = broken_text false input (heard (rows_read input)) same broken in (
      settled_broken input (ap (λ (s : List ℕ). (heard_in false s).broken) seen ∙ ended),
      ap told seen ∙ text,
      answer_short input l
          ∙ broken_answer (is_all input) input [] ended
          ∙ answer_broken (heard_in false input) (told_in false input) (has_come false input) ended
          ∙ ap (λ (t : List ℕ). record { status = 3; text = t }) text,
    )

-- ---- an input has ended

and_come : (x come : Bool) (text : List ℕ) → come ≡ true → (if x && come then text else []) ≡ (if x then text else [])
and_come true come text e = ap (λ (c : Bool). if c then text else []) e
and_come false come text e = refl

-- what is told of one that has these records
text_come : (all : Bool) (input : List ℕ) (records : List Fields) → has_come all input ≡ true → whole_records all input ≡ records → told_in all input ≡ told_of records ++ told_last records
unfolding told_in
text_come all input records come is =
    ap (λ (rs : List Fields). told_calls (day_of (heard rs)) 0 (heard rs).calls ++ (if has_end (heard rs) && not (heard rs).broken && has_come all input then told_end (day_of (heard rs)) else [])) is
    ∙ ap (λ (t : List ℕ). told_of records ++ t) (and_come (has_end (heard records) && not (heard records).broken) (has_come all input) (told_end (day_of (heard records))) come)

answer_come : (all : Bool) (input : List ℕ) (records : List Fields) → has_come all input ≡ true → whole_records all input ≡ records → answer_by all input ≡ answer_with (heard records) (told_of records ++ told_last records)
answer_come all input records come is =
    let text : told_in all input ≡ told_of records ++ told_last records = text_come all input records come is in
    λ i. answer_of (heard (is i)) (text i) (come i)

-- by the byte that ends its line END
pub over_settles : (front : List ℕ) (b : ℕ) → length (front ++ b ∷ []) ≤ longest_input → is_over (line_of front) ≡ false → line_of (front ++ b ∷ []) ≡ lines.Over → (records : List Fields)
    → records ≡ rows_read (front ++ b ∷ []) ++ open_rows (place_of (front ++ b ∷ []))
    → (is_settled_by (front ++ b ∷ []) ≡ true) × (told (looked_at (front ++ b ∷ [])) ≡ told_of records ++ told_last records)
    × (live_answer (front ++ b ∷ []) ≡ answer_with (heard records) (told_of records ++ told_last records))
over_settles front b l going over records is =
    let input : List ℕ = front ++ b ∷ [] in
    let seen : looked_at input ≡ input = looked_whole input l in
    let come : has_come false input ≡ true = ap is_over over in
    let rows : whole_records false input ≡ records = ended_as_seen false input (ap (has_ended false) over) (cut_at front b going over) ∙ sym is in (
      ap (λ (s : List ℕ). (heard_in false s).broken || has_come false s || not (is_all input)) seen
          ∙ ap (λ (x : Bool). (heard_in false input).broken || x || not (is_all input)) come
          ∙ middle (heard_in false input).broken (not (is_all input)),
      ap told seen ∙ text_come false input records come rows,
      answer_short input l ∙ over_answer (is_all input) input [] over ∙ answer_come false input records come rows,
    )
  where
    middle : (x y : Bool) → (x || true || y) ≡ true
    middle true y = refl
    middle false y = refl

is_whole : (n : ℕ) → n ≤ longest_input → nat_le n longest_input ≡ true
is_whole n l = elim (cases_Bool (nat_le n longest_input)) [
  | inl e ↦ e
  | inr e ↦ absurd (let more = le_failed n longest_input e in omega (arith, more, l))
]

answer_all : (input : List ℕ) → length input ≤ longest_input → live_answer input ≡ answer_by true input
answer_all input l = live_is input ∙ (λ i. answer_by (is_whole (length input) l i) (looked_whole input l i))

none_ended : (line : Line) → is_over line ≡ false → (line ≡ lines.HasEND → ⊥) → has_ended true line ≡ false
none_ended lines.Begun e other = refl
none_ended lines.HasE e other = refl
none_ended lines.HasEN e other = refl
none_ended lines.HasEND e other = absurd (other refl)
none_ended lines.Other e other = refl
none_ended lines.Over e other = cc e

-- without such a line
pub ends_open : (input : List ℕ) → length input ≤ longest_input → is_over (line_of input) ≡ false → (line_of input ≡ lines.HasEND → ⊥)
    → live_answer input ≡ answer_with (heard (rows_read input)) (told_of (rows_read input) ++ told_last (rows_read input))
ends_open input l going other = answer_all input l ∙ answer_come true input (rows_read input) refl (read_as_seen true input (none_ended (line_of input) going other))

-- in one without its line end
pub ends_in_end : (input : List ℕ) → length input ≤ longest_input → line_of input ≡ lines.HasEND → (records : List Fields) → records ≡ rows_read input ++ open_rows (place_of input)
    → live_answer input ≡ answer_with (heard records) (told_of records ++ told_last records)
ends_in_end input l last records is =
    answer_all input l
    ∙ answer_come true input records refl (ended_as_seen true input (ap (has_ended true) last) (cut_open input (ap is_over last)) ∙ sym is)

-- ---- one byte too many

too_many : (n : ℕ) → longest_input < n → nat_le n longest_input ≡ false
too_many n l = elim (cases_Bool (nat_le n longest_input)) [
  | inl e ↦ absurd (let small = le_meant n longest_input e in omega (arith, small, l))
  | inr e ↦ e
]

is_settled_long : (input : List ℕ) → longest_input < length input → is_settled_by input ≡ true
is_settled_long input l =
    ap (λ (x : Bool). (heard_in false (looked_at input)).broken || has_come false (looked_at input) || not x) (too_many (length input) l)
    ∙ last ((heard_in false (looked_at input)).broken || has_come false (looked_at input))
  where
    last : (x : Bool) → (x || true) ≡ true
    last true = refl
    last false = refl

pub long_answer_is : (front : List ℕ) (b : ℕ) → length front ≡ longest_input → is_settled_by front ≡ false
    → (is_settled_by (front ++ b ∷ []) ≡ true) × (told (looked_at (front ++ b ∷ [])) ≡ told (looked_at front))
    × (live_answer (front ++ b ∷ []) ≡ record { status = 7; text = told (looked_at front) ++ size_text })
long_answer_is front b size open_yet =
    let input : List ℕ = front ++ b ∷ [] in
    let long : length input ≡ length front + 1 = length-append front (b ∷ []) in
    let seen : looked_at input ≡ looked_at front = take-append-le longest_input front (b ∷ []) (omega (arith, size)) in
    let more : is_all input ≡ false = too_many (length input) (omega (arith, long, size)) in
    let none = or_neither ((heard_in false (looked_at front)).broken || has_come false (looked_at front)) (not (is_all front)) open_yet in
    let neither = or_neither (heard_in false (looked_at front)).broken (has_come false (looked_at front)) none.0 in (
      is_settled_long input (omega (arith, long, size)),
      ap told seen,
      live_is input
          ∙ (λ i. answer_by (more i) (seen i))
          ∙ goes (heard_in false (looked_at front)) (told (looked_at front)) (has_come false (looked_at front)) neither.0 neither.1,
    )
  where
    behind : Heard → List ℕ → Bool → Answer
    behind h text come =
        if not come then record { status = 7; text = text ++ size_text }
        else if has_end h then record { status = 0; text = text }
        else record { status = 3; text = text ++ refusal_text (h.count + 1) day_codes.Cut }

    goes : (h : Heard) (text : List ℕ) (come : Bool) → h.broken ≡ false → come ≡ false → answer_of h text come ≡ record { status = 7; text = text ++ size_text }
    goes h text come going none = ap (λ (x : Bool). if x then record { status = 3; text = text } else behind h text come) going ∙ ap (behind h text) none

-- ---- what follows after bytes that settle the answer

stays_broken : (front more : List ℕ) → (heard_in false front).broken ≡ true → ((heard_in false (front ++ more)).broken ≡ true) × (told (front ++ more) ≡ told front)
stays_broken front more broken =
    let same : heard_in false (front ++ more) ≡ heard_in false front = (bytes_continue front more false).broken broken in (
      ap (λ (h : Heard). h.broken) same ∙ broken,
      broken_text false (front ++ more) (heard_in false front) same broken ∙ sym (broken_text false front (heard_in false front) refl broken),
    )

stays_settled : (front more : List ℕ) → ((heard_in false front).broken || has_come false front) ≡ true
    → (((heard_in false (front ++ more)).broken || has_come false (front ++ more)) ≡ true) × (told (front ++ more) ≡ told front)
stays_settled front more e = elim (or_either (heard_in false front).broken (has_come false front) e) [
  | inl broken ↦ let stays = stays_broken front more broken in (ap (λ (x : Bool). x || has_come false (front ++ more)) stays.0, stays.1)
  | inr come ↦
      let over : line_of front ≡ lines.Over = is_over_or (line_of front) come in
      let there : line_of (front ++ more) ≡ lines.Over = line_append lines.Begun front more ∙ ap (λ (line : Line). line_from line more) over ∙ over_stays more in
      (ap (λ (line : Line). (heard_in false (front ++ more)).broken || is_over line) there ∙ last (heard_in false (front ++ more)).broken, over_same false front more over)
]
  where
    last : (x : Bool) → (x || true) ≡ true
    last true = refl
    last false = refl

settled_short : (front rest : List ℕ) → length front ≤ longest_input → ((heard_in false (looked_at front)).broken || has_come false (looked_at front)) ≡ true
    → (is_settled_by (front ++ rest) ≡ true) × (told (looked_at (front ++ rest)) ≡ told (looked_at front))
settled_short front rest l e =
    let more : List ℕ = take (longest_input - length front) rest in
    let seen : looked_at front ≡ front = looked_whole front l in
    let all : looked_at (front ++ rest) ≡ front ++ more = looked_front front rest l in
    let stays = stays_settled front more (ap (λ (s : List ℕ). (heard_in false s).broken || has_come false s) (sym seen) ∙ e) in (
      ap (λ (s : List ℕ). (heard_in false s).broken || has_come false s || not (is_all (front ++ rest))) all ∙ ap (λ (x : Bool). x || not (is_all (front ++ rest))) stays.0,
      ap told all ∙ stays.1 ∙ ap told (sym seen),
    )

settled_long : (front rest : List ℕ) → longest_input < length front → (is_settled_by (front ++ rest) ≡ true) × (told (looked_at (front ++ rest)) ≡ told (looked_at front))
settled_long front rest l =
    let long : length (front ++ rest) ≡ length front + length rest = length-append front rest in (
      is_settled_long (front ++ rest) (omega (arith, long, l)),
      ap told (take-append-le longest_input front rest (omega (arith, l))),
    )

pub settled_told : (front rest : List ℕ) → is_settled_by front ≡ true → (is_settled_by (front ++ rest) ≡ true) × (told (looked_at (front ++ rest)) ≡ told (looked_at front))
settled_told front rest e = elim (cases_Bool (is_all front)) [
  | inl short ↦ settled_short front rest (le_meant (length front) longest_input short) (or_first _ (not (is_all front)) e (not_so (is_all front) short))
  | inr long ↦ settled_long front rest (le_failed (length front) longest_input long)
]
