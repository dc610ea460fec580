-- Where bytes settle the answer, nothing that follows changes it.
use Rattle.std.proofs.Common.{◌≡◌, ◌∙◌, ◌+◌, ◌-◌, ◌≤◌, ◌<◌, ◌++◌, ℕ, zero, suc, Bool, true, false, not, List, [], append-nil, length, length-append, refl, sym, ap, arith, take, inl, inr}
use Rattle.std.specs.Prelude.{◌&&◌, ◌||◌, if◌then◌else◌, nat_le}
use Rattle.std.proofs.lemmas.Bool.{cases_Bool}
use Rattle.std.proofs.lemmas.List.{take-append-le}
use Rattle.batch_records.specs.declared.day.DayCode.TheVariants as day_codes
use Rattle.batch_records.proofs.BoolFacts.{le_failed, le_meant, or_either}
use Rattle.program_answers.specs.Answers.{Answer, refusal_text, size_text}
use Rattle.record_rows.specs.Lines.{line_from, line_of}
use Rattle.record_rows.specs.declared.line.Line.{Line}
use Rattle.record_rows.specs.declared.line.Line.TheVariants as lines
use Rattle.live_records.specs.Heard.{Heard, day_of, has_end, heard, heard_in}
use Rattle.live_records.specs.WholeRecords.{is_over}
use Rattle.live_records.proofs.Continuing.{bytes_continue}
use Rattle.live_records.proofs.CutFacts.{front_over, is_over_or, line_append, over_stays}
use Rattle.live_day.specs.Answers.{is_all, is_settled_by, live_answer, longest_input, looked_at}
use Rattle.live_day.specs.Told.{has_come, told_calls, told_end, told_in}
use Rattle.live_day.proofs.ResumeFacts.{looked_front}
use Rattle.live_day.proofs.ToldFronts.{over_same}

-- the answer by what was heard, what is told of it, and whether the input has ended
abbrev pub answer_of : Heard → List ℕ → Bool → Answer
answer_of h text come =
    if h.broken then record { status = 3; text = text }
    else if not come then record { status = 7; text = text ++ size_text }
    else if has_end h then record { status = 0; text = text }
    else record { status = 3; text = text ++ refusal_text (h.count + 1) day_codes.Cut }

abbrev pub answer_by : Bool → List ℕ → Answer
answer_by all seen = answer_of (heard_in all seen) (told_in all seen) (has_come all seen)

pub live_is : (input : List ℕ) → live_answer input ≡ answer_by (is_all input) (looked_at input)
unfolding live_answer
live_is input = refl

pub over_answer : (all : Bool) (front rest : List ℕ) → line_of front ≡ lines.Over → answer_by all (front ++ rest) ≡ answer_by false front
over_answer all front rest over =
    let there : line_of (front ++ rest) ≡ lines.Over = line_append lines.Begun front rest ∙ ap (λ (l : Line). line_from l rest) over ∙ over_stays rest in
    let h : heard_in all (front ++ rest) ≡ heard_in false front = ap heard (front_over all front rest over) in
    let text = over_same all front rest over in
    let come : has_come all (front ++ rest) ≡ has_come false front = (λ i. all || is_over (there i)) ∙ always all ∙ sym (λ i. false || is_over (over i)) in
    λ i. answer_of (h i) (text i) (come i)
  where
    always : (x : Bool) → (x || true) ≡ true
    always true = refl
    always false = refl

-- what is told where a bad record ended the run
pub broken_text : (all : Bool) (input : List ℕ) (h : Heard) → heard_in all input ≡ h → h.broken ≡ true → told_in all input ≡ told_calls (day_of h) 0 h.calls
unfolding told_in
broken_text all input h e broken =
    ap (λ (g : Heard). told_calls (day_of g) 0 g.calls ++ (if has_end g && not g.broken && has_come all input then told_end (day_of g) else [])) e
    ∙ (λ i. told_calls (day_of h) 0 h.calls ++ (if has_end h && not (broken i) && has_come all input then told_end (day_of h) else []))
    ∙ by (has_end h) (has_come all input)
  where
    by : (x y : Bool) → (told_calls (day_of h) 0 h.calls ++ (if x && false && y then told_end (day_of h) else [])) ≡ told_calls (day_of h) 0 h.calls
    by true y = append-nil (told_calls (day_of h) 0 h.calls)
    by false y = append-nil (told_calls (day_of h) 0 h.calls)

pub answer_broken : (h : Heard) (text : List ℕ) (come : Bool) → h.broken ≡ true → answer_of h text come ≡ record { status = 3; text = text }
answer_broken h text come e = ap (λ (x : Bool). if x then record { status = 3; text = text } else answer_behind) e
  where
    answer_behind : Answer
    answer_behind =
        if not come then record { status = 7; text = text ++ size_text }
        else if has_end h then record { status = 0; text = text }
        else record { status = 3; text = text ++ refusal_text (h.count + 1) day_codes.Cut }

pub broken_answer : (all : Bool) (front rest : List ℕ) → (heard_in false front).broken ≡ true → answer_by all (front ++ rest) ≡ answer_by false front
broken_answer all front rest broken =
    let same : heard_in all (front ++ rest) ≡ heard_in false front = (bytes_continue front rest all).broken broken in
    let still : (heard_in all (front ++ rest)).broken ≡ true = ap (λ (g : Heard). g.broken) same ∙ broken in
    let text : told_in all (front ++ rest) ≡ told_in false front = broken_text all (front ++ rest) (heard_in false front) same broken ∙ sym (broken_text false front (heard_in false front) refl broken) in
    answer_broken (heard_in all (front ++ rest)) (told_in all (front ++ rest)) (has_come all (front ++ rest)) still
    ∙ (λ i. record { status = 3; text = text i })
    ∙ sym (answer_broken (heard_in false front) (told_in false front) (has_come false front) broken)

-- of an input that isn't too long
short_answer : (front rest : List ℕ) → length front ≤ longest_input → ((all : Bool) (more : List ℕ) → answer_by all (front ++ more) ≡ answer_by false front) → live_answer (front ++ rest) ≡ live_answer front
short_answer front rest l same =
    live_is (front ++ rest)
    ∙ ap (λ (s : List ℕ). answer_by (is_all (front ++ rest)) s) (looked_front front rest l)
    ∙ same (is_all (front ++ rest)) (take (longest_input - length front) rest)
    ∙ sym (same (is_all front) (take (longest_input - length front) []))
    ∙ ap (λ (s : List ℕ). answer_by (is_all front) s) (sym (looked_front front [] l) ∙ ap looked_at (append-nil front))
    ∙ sym (live_is front)

long_answer : (front rest : List ℕ) → longest_input < length front → live_answer (front ++ rest) ≡ live_answer front
long_answer front rest l =
    let size = length-append front rest in
    let first : is_all front ≡ false = too_long (length front) l in
    let whole : is_all (front ++ rest) ≡ false = too_long (length (front ++ rest)) (omega (arith, l, size)) in
    live_is (front ++ rest)
    ∙ (λ i. answer_by (whole i) (take-append-le longest_input front rest (omega (arith, l)) i))
    ∙ sym (ap (λ (x : Bool). answer_by x (looked_at front)) first)
    ∙ sym (live_is front)
  where
    too_long : (n : ℕ) → longest_input < n → nat_le n longest_input ≡ false
    too_long n l = elim (cases_Bool (nat_le n longest_input)) [
      | inl e ↦ absurd (let small = le_meant n longest_input e in omega (arith, small, l))
      | inr e ↦ e
    ]

pub looked_whole : (front : List ℕ) → length front ≤ longest_input → looked_at front ≡ front
looked_whole front l = ap looked_at (sym (append-nil front)) ∙ looked_front front [] l ∙ ap (λ (t : List ℕ). front ++ t) (none (longest_input - length front)) ∙ append-nil front
  where
    none : (n : ℕ) → take {A = ℕ} n [] ≡ []
    none zero = refl
    none (suc n) = refl

pub or_first : (x y : Bool) → (x || y) ≡ true → y ≡ false → x ≡ true
or_first true y e f = refl
or_first false y e f = let clash : true ≡ false = sym e ∙ f in cc clash

pub not_so : (x : Bool) → x ≡ true → not x ≡ false
not_so true e = refl
not_so false e = cc e

short_settled : (front rest : List ℕ) → length front ≤ longest_input → ((heard_in false (looked_at front)).broken || has_come false (looked_at front)) ≡ true → live_answer (front ++ rest) ≡ live_answer front
short_settled front rest l e =
    let seen : looked_at front ≡ front = looked_whole front l in
    elim (or_either (heard_in false (looked_at front)).broken (has_come false (looked_at front)) e) [
      | inl broken ↦ short_answer front rest l (λ all more. broken_answer all front more (ap (λ (s : List ℕ). (heard_in false s).broken) (sym seen) ∙ broken))
      | inr come ↦ short_answer front rest l (λ all more. over_answer all front more (is_over_or (line_of front) (ap (λ (s : List ℕ). has_come false s) (sym seen) ∙ come)))
    ]

pub settled_stays : (front rest : List ℕ) → is_settled_by front ≡ true → live_answer (front ++ rest) ≡ live_answer front
settled_stays front rest e = elim (cases_Bool (is_all front)) [
  | inl short ↦ short_settled front rest (le_meant (length front) longest_input short) (or_first _ (not (is_all front)) e (not_so (is_all front) short))
  | inr long ↦ long_answer front rest (le_failed (length front) longest_input long)
]
