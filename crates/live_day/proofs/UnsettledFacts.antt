-- Of bytes that don't settle the answer: some that follow change it.
use Rattle.std.proofs.Common.{◌≡◌, ◌∙◌, ◌+◌, ◌-◌, ◌≤◌, ◌<◌, ◌++◌, ◌≢◌, ℕ, zero, suc, Bool, true, false, not, List, [], ◌∷◌, append_assoc, append-nil, length, length-append, refl, sym, ap, subst, arith, take, inl, inr}
use Rattle.std.specs.Prelude.{◌||◌, if◌then◌else◌, nat_le}
use Rattle.std.proofs.lemmas.Bool.{lt-leb}
use Rattle.csv.specs.declared.parser.State.{State}
use Rattle.csv.specs.declared.parser.State.TheVariants as states
use Rattle.record_rows.specs.Input.{ends_mark, mark_of, place_of, rows_read}
use Rattle.record_rows.specs.Lines.{line_after, line_from, line_of}
use Rattle.record_rows.specs.Machine.{comes, moved}
use Rattle.record_rows.specs.Rows.{kept_row}
use Rattle.record_rows.specs.declared.input.Mark.{Mark}
use Rattle.record_rows.specs.declared.input.Mark.TheVariants as marks
use Rattle.record_rows.specs.declared.line.Line.{Line}
use Rattle.record_rows.specs.declared.line.Line.TheVariants as lines
use Rattle.record_rows.proofs.InputFacts.{came_next}
use Rattle.record_rows.proofs.LineFacts.{line_more}
use Rattle.batch_records.specs.Records.{Fields, records_of}
use Rattle.batch_records.specs.declared.day.DayCode.TheVariants as day_codes
use Rattle.batch_records.proofs.BoolFacts.{le_meant, or_neither}
use Rattle.program_answers.specs.Answers.{Answer, refusal_text, size_text}
use Rattle.live_records.specs.Heard.{has_end, heard, heard_in}
use Rattle.live_records.specs.WholeRecords.{cut, has_ended, is_over, whole_records}
use Rattle.live_day.specs.Answers.{is_all, is_settled_by, live_answer, longest_input, looked_at}
use Rattle.live_day.specs.Ends.{chosen}
use Rattle.live_day.specs.Told.{has_come, told_in}
use Rattle.live_day.proofs.ResumeFacts.{looked_front}

-- ---- bytes that end nothing

unfoldable pub filler : ℕ → List ℕ
filler zero = []
filler (suc n) = 88 ∷ filler n

filler_next : (n : ℕ) → filler (suc n) ≡ 88 ∷ filler n
unfolding filler
filler_next n = refl

filler_none : filler zero ≡ []
unfolding filler
filler_none = refl

pub filler_long : (n : ℕ) → length (filler n) ≡ n
unfolding filler
filler_long zero = refl
filler_long (suc n) = ap suc (filler_long n)

take_filler : (k n : ℕ) → (j : ℕ) × (take k (filler n) ≡ filler j)
unfolding filler
take_filler zero n = (zero, refl)
take_filler (suc k) zero = (zero, refl)
take_filler (suc k) (suc n) = let more = take_filler k n in (suc more.0, ap (λ (t : List ℕ). 88 ∷ t) more.1)

no_mark : (m : Mark) → ends_mark m 88 ≡ false
no_mark marks.Begun = refl
no_mark marks.First = refl
no_mark marks.Second = refl
no_mark marks.Past = refl

no_record : (s : State) → false ≡ comes s 88
no_record states.StartRecord = refl
no_record states.StartField = refl
no_record states.InField = refl
no_record states.InQuoted = refl
no_record states.AfterQuote = refl
no_record states.InEscape = refl
no_record states.InComment = refl
no_record states.AfterCr = refl

no_line : (l : Line) → is_over (line_after l 88) ≡ is_over l
no_line lines.Begun = refl
no_line lines.HasE = refl
no_line lines.HasEN = refl
no_line lines.HasEND = refl
no_line lines.Other = refl
no_line lines.Over = refl

rows_stay : (input : List ℕ) → rows_read (input ++ 88 ∷ []) ≡ rows_read input
rows_stay input = came_next false input 88 (kept_row (moved 88 (place_of input)).fields) (no_mark (mark_of input)) (no_record (place_of input).state) refl

line_stays : (input : List ℕ) → is_over (line_of (input ++ 88 ∷ [])) ≡ is_over (line_of input)
line_stays input = ap is_over (line_more lines.Begun input 88) ∙ no_line (line_of input)

abbrev Same : List ℕ → List ℕ → Type 0
Same input longer = (rows_read longer ≡ rows_read input) × (is_over (line_of longer) ≡ is_over (line_of input))

filled : (n : ℕ) (input : List ℕ) → Same input (input ++ filler n)
filled zero input = subst (λ (t : List ℕ). Same input t) (sym (ap (λ (t : List ℕ). input ++ t) filler_none ∙ append-nil input)) (refl, refl)
filled (suc n) input =
    let more = filled n (input ++ 88 ∷ []) in
    let e : input ++ filler (suc n) ≡ (input ++ 88 ∷ []) ++ filler n = ap (λ (t : List ℕ). input ++ t) (filler_next n) ∙ sym (append_assoc input (88 ∷ []) (filler n)) in
    subst (λ (t : List ℕ). Same input t) (sym e) (more.0 ∙ rows_stay input, more.1 ∙ line_stays input)

-- ---- what is heard of bytes that end in no line END

heard_open : (input : List ℕ) → is_over (line_of input) ≡ false → whole_records false input ≡ rows_read input
unfolding whole_records
heard_open input e = by (line_of input) e
  where
    by : (l : Line) → is_over l ≡ false → (if has_ended false l then records_of (cut input) else rows_read input) ≡ rows_read input
    by lines.Begun e = refl
    by lines.HasE e = refl
    by lines.HasEN e = refl
    by lines.HasEND e = refl
    by lines.Other e = refl
    by lines.Over e = cc e

-- ---- answers

seven : (x c z : Bool) (text cut size : List ℕ) → x ≡ false → c ≡ false → (chosen x (not c) z text cut size).status ≡ 7
seven x c z text cut size e f = λ i. (chosen (e i) (not (f i)) z text cut size).status

other_than_seven : (x c z : Bool) (text cut size : List ℕ) → c ≡ true → (chosen x (not c) z text cut size).status ≡ 7 → ⊥
other_than_seven true c z text cut size e f = cc f
other_than_seven false true true text cut size e f = cc f
other_than_seven false true false text cut size e f = cc f
other_than_seven false false z text cut size e f = cc e

long_status : (input : List ℕ) → (heard_in false (looked_at input)).broken ≡ false → is_over (line_of (looked_at input)) ≡ false → is_all input ≡ false → (live_answer input).status ≡ 7
unfolding live_answer
long_status input going unclosed long =
    seven (heard_in (is_all input) (looked_at input)).broken (has_come (is_all input) (looked_at input)) (has_end (heard_in (is_all input) (looked_at input))) (told_in (is_all input) (looked_at input))
    (refusal_text ((heard_in (is_all input) (looked_at input)).count + 1) day_codes.Cut) size_text
    (ap (λ (x : Bool). (heard_in x (looked_at input)).broken) long ∙ going) ((λ i. long i || unclosed i))

short_status : (input : List ℕ) → is_all input ≡ true → (live_answer input).status ≡ 7 → ⊥
unfolding live_answer
short_status input all =
    other_than_seven (heard_in (is_all input) (looked_at input)).broken (has_come (is_all input) (looked_at input)) (has_end (heard_in (is_all input) (looked_at input))) (told_in (is_all input) (looked_at input))
    (refusal_text ((heard_in (is_all input) (looked_at input)).count + 1) day_codes.Cut) size_text
    (ap (λ (x : Bool). has_come x (looked_at input)) all)

neither : (a b c : Bool) → (a || b || not c) ≡ false → (a ≡ false) × (b ≡ false) × (c ≡ true)
neither true b c e = cc e
neither false true c e = cc e
neither false false true e = (refl, refl, refl)
neither false false false e = cc e

-- More bytes than an input may have change the status. So they do whatever is told of the answer.
pub status_changes : (front : List ℕ) → is_settled_by front ≡ false → (rest : List ℕ) × ((live_answer (front ++ rest)).status ≡ (live_answer front).status → ⊥)
status_changes front e = (filler (suc longest_input), λ same. short_status front parts.2 (sym same ∙ seven_here))
  where
    parts : ((heard_in false (looked_at front)).broken ≡ false) × (has_come false (looked_at front) ≡ false) × (is_all front ≡ true)
    parts = neither (heard_in false (looked_at front)).broken (has_come false (looked_at front)) (is_all front) e

    within : length front ≤ longest_input
    within = le_meant (length front) longest_input parts.2

    whole : looked_at front ≡ front
    whole = take_short longest_input front within
      where
        take_short : (n : ℕ) (xs : List ℕ) → length xs ≤ n → take n xs ≡ xs
        take_short zero [] l = refl
        take_short zero (x ∷ xs) l = absurd (omega (arith, l))
        take_short (suc n) [] l = refl
        take_short (suc n) (x ∷ xs) l = ap (λ (t : List ℕ). x ∷ t) (take_short n xs (omega (arith, l)))

    some : (j : ℕ) × (take (longest_input - length front) (filler (suc longest_input)) ≡ filler j)
    some = take_filler (longest_input - length front) (suc longest_input)

    seen : looked_at (front ++ filler (suc longest_input)) ≡ front ++ filler some.0
    seen = looked_front front (filler (suc longest_input)) within ∙ ap (λ (t : List ℕ). front ++ t) some.1

    same_there : Same front (front ++ filler some.0)
    same_there = filled some.0 front

    open_front : is_over (line_of front) ≡ false
    open_front = ap (λ (t : List ℕ). is_over (line_of t)) (sym whole) ∙ parts.1

    open_there : is_over (line_of (front ++ filler some.0)) ≡ false
    open_there = same_there.1 ∙ open_front

    heard_same : heard_in false (front ++ filler some.0) ≡ heard_in false front
    heard_same = ap heard (heard_open (front ++ filler some.0) open_there ∙ same_there.0 ∙ sym (heard_open front open_front))

    going : (heard_in false (looked_at (front ++ filler (suc longest_input)))).broken ≡ false
    going = ap (λ (t : List ℕ). (heard_in false t).broken) seen ∙ (λ i. (heard_same i).broken) ∙ ap (λ (t : List ℕ). (heard_in false t).broken) (sym whole) ∙ parts.0

    open_seen : is_over (line_of (looked_at (front ++ filler (suc longest_input)))) ≡ false
    open_seen = ap (λ (t : List ℕ). is_over (line_of t)) seen ∙ open_there

    long : is_all (front ++ filler (suc longest_input)) ≡ false
    long =
        let sum = length-append front (filler (suc longest_input)) in
        let size = filler_long (suc longest_input) in
        lt-leb (length (front ++ filler (suc longest_input))) longest_input (omega (arith, sum, size))

    seven_here : (live_answer (front ++ filler (suc longest_input))).status ≡ 7
    seven_here = long_status (front ++ filler (suc longest_input)) going open_seen long

pub answer_changes : (front : List ℕ) → is_settled_by front ≡ false → (rest : List ℕ) × (live_answer (front ++ rest) ≡ live_answer front → ⊥)
answer_changes front e = let more = status_changes front e in (more.0, λ same. more.1 (ap (λ (a : Answer). a.status) same))
