-- Of both runs: what is told of bytes begins the answer to whatever they begin, and where they settle it nothing that follows changes it.
use Rattle.std.proofs.Common.{◌≡◌, ◌∙◌, ◌+◌, ◌^◌, ◌≤◌, ◌<◌, ◌++◌, ℕ, suc, Bool, true, false, not, List, [], ◌∷◌, Option, None, Some, append_assoc, length, length-append, length-drop, drop, refl, sym, ap, subst, arith, inl, inr}
use Rattle.std.specs.Prelude.{◌&&◌, ◌||◌, ◌==◌, codes, if◌then◌else◌, is_some, nat_eq}
use Rattle.std.specs.List.{starts_with}
use Rattle.std.proofs.lemmas.List.{drop-append-le}
use Rattle.batch_records.proofs.BoolFacts.{or_either}
use Rattle.program_answers.specs.Answers.{Answer, illegal}
use Rattle.live_records.specs.Fates.{IsFront}
use Rattle.live_records.proofs.CutFacts.{front_then}
use Rattle.live_day.specs.Answers.{is_settled_by, live_answer, longest_input, looked_at}
use Rattle.live_day.specs.Promises.{Request, Resumes, Runs, program_of}
use Rattle.live_day.specs.Resumed.{Before, before_of, behind, first_line, has_no_header, has_no_output, is_no_header, is_own, is_resume_settled, longest_output, may_begin, number_within, one_more, other_line, portion, resumed_answer, settles, told_resumed}
use Rattle.live_day.specs.Told.{told}
use Rattle.live_day.proofs.BeginFacts.{begins_front, header_front}
use Rattle.live_day.proofs.EndFacts.{settled_stays, told_front}
use Rattle.live_day.proofs.HeaderFacts.{before_more, has_header, one_line_more, output_word, portion_more, read_within, records_word}
use Rattle.live_day.proofs.PlaceFacts.{wanted_short}
use Rattle.live_day.proofs.RunFacts.{answer_goes_on, told_goes_on}

-- ---- a header that isn't so stays one that isn't

-- the first line of a longer text begins with a text that has no line
line_longer : (text more line rest : List ℕ) → first_line text ≡ None → first_line (text ++ more) ≡ Some (line, rest) → IsFront text line
unfolding first_line
line_longer [] more line rest none e = (line, refl)
line_longer (b ∷ text) more line rest none e = by (b == 10) (first_line text) (first_line (text ++ more)) (line_longer text more) none e
  where
    by : (x : Bool) (o q : Option (List ℕ × List ℕ)) → ((l r : List ℕ) → o ≡ None → q ≡ Some (l, r) → IsFront text l)
        → (if x then Some ([], text) else one_more b o) ≡ None → (if x then Some ([], text ++ more) else one_more b q) ≡ Some (line, rest) → IsFront (b ∷ text) line
    by true o q h none e = cc none
    by false (Some s) q h none e = cc none
    by false None None h none e = cc e
    by false None (Some s) h none e =
        let same : ◌≡◌ {A = List ℕ × List ℕ} (b ∷ s.0, s.1) (line, rest) = cc e in
        let less = h s.0 s.1 refl refl in
        (less.0, sym (ap (λ (p : List ℕ × List ℕ). p.0) same) ∙ ap (λ (t : List ℕ). b ∷ t) less.1)

and_no : (x : Bool) → not x ≡ true → x ≡ false
and_no true e = cc e
and_no false e = refl

no_yes : (x y : Bool) → (x ≡ true → y ≡ true) → y ≡ false → not x ≡ true
no_yes true y h e = let clash : true ≡ false = sym (h refl) ∙ e in cc clash
no_yes false y h e = refl

header_stays : (word : List ℕ) (most : ℕ) (text more : List ℕ) → most < 10 ^ 9 → is_no_header word most text (first_line text) ≡ true → is_no_header word most (text ++ more) (first_line (text ++ more)) ≡ true
header_stays word most text more low e = by (first_line text) refl e
  where
    whole : may_begin word most text ≡ false → (q : Option (List ℕ × List ℕ)) → ((line rest : List ℕ) → q ≡ Some (line, rest) → IsFront text line) → is_no_header word most (text ++ more) q ≡ true
    whole none None h = no_yes (may_begin word most (text ++ more)) (may_begin word most text) (begins_front word most text more low) none
    whole none (Some s) h =
        let front = h s.0 s.1 refl in
        no_yes (starts_with nat_eq s.0 (word ++ codes ";") && is_some (number_within most (drop (length word + 1) s.0))) (may_begin word most text)
        (λ is. header_front word most text front.0 low (ap (λ (l : List ℕ). starts_with nat_eq l (word ++ codes ";") && is_some (number_within most (drop (length word + 1) l))) (sym front.1) ∙ is)) none

    by : (o : Option (List ℕ × List ℕ)) → first_line text ≡ o → is_no_header word most text o ≡ true → is_no_header word most (text ++ more) (first_line (text ++ more)) ≡ true
    by None first e = whole (and_no (may_begin word most text) e) (first_line (text ++ more)) (λ line rest some. line_longer text more line rest first some)
    by (Some s) first e = ap (is_no_header word most (text ++ more)) (one_line_more text more s.0 s.1 first) ∙ e

or_first : (x y : Bool) → x ≡ true → (x || y) ≡ true
or_first true y e = refl
or_first false y e = cc e

or_second : (x y : Bool) → y ≡ true → (x || y) ≡ true
or_second true y e = refl
or_second false y e = e

no_header_stays : (bytes more : List ℕ) → has_no_header bytes ≡ true → has_no_header (bytes ++ more) ≡ true
no_header_stays bytes more e = elim (or_either (is_no_header records_word longest_input bytes (first_line bytes)) (has_no_output (portion records_word longest_input bytes)) e) [
  | inl first ↦ or_first (is_no_header records_word longest_input (bytes ++ more) (first_line (bytes ++ more))) (has_no_output (portion records_word longest_input (bytes ++ more))) (header_stays records_word longest_input bytes more (omega arith) first)
  | inr second ↦ or_second (is_no_header records_word longest_input (bytes ++ more) (first_line (bytes ++ more))) (has_no_output (portion records_word longest_input (bytes ++ more))) (by (portion records_word longest_input bytes) refl second)
]
  where
    by : (o : Option (List ℕ × List ℕ)) → portion records_word longest_input bytes ≡ o → has_no_output o ≡ true → has_no_output (portion records_word longest_input (bytes ++ more)) ≡ true
    by None first e = cc e
    by (Some s) first e = ap has_no_output (portion_more records_word longest_input bytes more s first) ∙ header_stays output_word longest_output s.1 more (omega arith) e

-- without headers nothing is told of what was before
before_none : (bytes : List ℕ) → has_no_header bytes ≡ true → before_of bytes ≡ None
before_none bytes e = by (before_of bytes) refl
  where
    by : (o : Option Before) → before_of bytes ≡ o → before_of bytes ≡ None
    by None is = is
    by (Some b) is = let clash : true ≡ false = sym e ∙ has_header bytes b is in cc clash

-- ---- the answer

own_stays : (b : Before) (rest : List ℕ) → settles (Some b) ≡ true → resumed_answer (Some (record b { rest = b.rest ++ rest })) ≡ resumed_answer (Some b)
own_stays b rest e = by (is_own b) e
  where
    by : (x : Bool) → (not x || is_settled_by (b.read ++ b.rest)) ≡ true
        → (if x then behind (length b.written) (live_answer (b.read ++ (b.rest ++ rest))) else illegal (other_line b.written (told b.read)))
        ≡ (if x then behind (length b.written) (live_answer (b.read ++ b.rest)) else illegal (other_line b.written (told b.read)))
    by true e = ap (λ (a : Answer). behind (length b.written) a) (ap live_answer (sym (append_assoc b.read b.rest rest)) ∙ settled_stays (b.read ++ b.rest) rest e)
    by false e = refl

resume_stays : (front rest : List ℕ) → is_resume_settled front ≡ true → resumed_answer (before_of (front ++ rest)) ≡ resumed_answer (before_of front)
resume_stays front rest e = elim (or_either (has_no_header front) (settles (before_of front)) e) [
  | inl none ↦ ap resumed_answer (before_none (front ++ rest) (no_header_stays front rest none) ∙ sym (before_none front none))
  | inr some ↦ by (before_of front) refl some
]
  where
    by : (o : Option Before) → before_of front ≡ o → settles o ≡ true → resumed_answer (before_of (front ++ rest)) ≡ resumed_answer (before_of front)
    by None is e = cc e
    by (Some b) is e = ap resumed_answer (before_more front rest b is) ∙ own_stays b rest e ∙ sym (ap resumed_answer is)

pub answers_stay : (r : Request) (front rest : List ℕ) → (program_of r).is_settled front ≡ true → (program_of r).answer (front ++ rest) ≡ (program_of r).answer front
answers_stay Runs front rest e = settled_stays front rest e
answers_stay Resumes front rest e = resume_stays front rest e

-- ---- what is told of it

run_begins : (front rest : List ℕ) → IsFront (told (looked_at front)) (live_answer (front ++ rest)).text
run_begins front rest = by (is_settled_by front) refl
  where
    by : (x : Bool) → is_settled_by front ≡ x → IsFront (told (looked_at front)) (live_answer (front ++ rest)).text
    by true e = subst (λ (a : Answer). IsFront (told (looked_at front)) a.text) (sym (settled_stays front rest e)) (answer_goes_on front)
    by false e = front_then (told (looked_at front)) (told (looked_at (front ++ rest))) (live_answer (front ++ rest)).text (told_goes_on front rest e) (answer_goes_on (front ++ rest))

own_begins : (b : Before) (rest : List ℕ) → length b.read ≤ longest_input → IsFront (told_resumed (Some b)) (resumed_answer (Some (record b { rest = b.rest ++ rest }))).text
own_begins b rest within = by (is_own b) refl
  where
    by : (x : Bool) → is_own b ≡ x → IsFront (if x then drop (length b.written) (told (looked_at (b.read ++ b.rest))) else [])
        (if x then behind (length b.written) (live_answer (b.read ++ (b.rest ++ rest))) else illegal (other_line b.written (told b.read))).text
    by true own =
        let here = told_front b.read b.rest within in
        let short = wanted_short b.written (told b.read) own in
        let size = ap (length {A = ℕ}) here.1 in
        let sum = length-append (told b.read) here.0 in
        let inside : length b.written ≤ length (told (looked_at (b.read ++ b.rest))) = omega (arith, short, size, sum) in
        let whole = run_begins (b.read ++ b.rest) rest in (
          whole.0,
          ap (λ (input : List ℕ). drop (length b.written) (live_answer input).text) (sym (append_assoc b.read b.rest rest))
              ∙ ap (drop (length b.written)) whole.1
              ∙ drop-append-le (length b.written) (told (looked_at (b.read ++ b.rest))) whole.0 inside,
        )
    by false own = ((illegal (other_line b.written (told b.read))).text, refl)

resume_begins : (front rest : List ℕ) → IsFront (told_resumed (before_of front)) (resumed_answer (before_of (front ++ rest))).text
resume_begins front rest = by (before_of front) refl
  where
    by : (o : Option Before) → before_of front ≡ o → IsFront (told_resumed o) (resumed_answer (before_of (front ++ rest))).text
    by None is = ((resumed_answer (before_of (front ++ rest))).text, refl)
    by (Some b) is = subst (λ (o : Option Before). IsFront (told_resumed (Some b)) (resumed_answer o).text) (sym (before_more front rest b is)) (own_begins b rest (read_within front b is))

pub told_begins : (r : Request) (front rest : List ℕ) → IsFront ((program_of r).told front) ((program_of r).answer (front ++ rest)).text
told_begins Runs front rest = run_begins front rest
told_begins Resumes front rest = resume_begins front rest
