-- What a run that goes on has to show of its answers.
use Rattle.std.proofs.Common.{◌≡◌, ◌∙◌, ◌<◌, ◌++◌, ℕ, Bool, true, false, not, List, [], Option, None, Some, length, length-append, refl, ap, arith, inl, inr}
use Rattle.std.specs.Prelude.{◌||◌, codes, if◌then◌else◌}
use Rattle.program_answers.specs.Answers.{illegal}
use Rattle.program_answers.specs.Programs.{is_no_answer}
use Rattle.live_day.specs.Answers.{is_settled_by, live_answer, longest_input}
use Rattle.live_day.specs.Ends.{long_settles, own_status}
use Rattle.live_day.specs.Headers.{sizes_of, there}
use Rattle.live_day.specs.Promises.{longest_resumed}
use Rattle.live_day.specs.Resumed.{Before, before_of, behind, behind_records, first_line, has_no_header, has_no_output, is_no_header, is_own, is_resume_settled, longest_output, other_line, portion, resumed_answer, settles, told_resumed, with_written}
use Rattle.live_day.specs.Told.{told}

pub none_resumed : told_resumed (before_of []) ≡ []
unfolding before_of first_line
none_resumed = refl

-- no answer has the status of another end
pub own_resumed : (bytes : List ℕ) → is_no_answer (resumed_answer (before_of bytes)).status ≡ false
own_resumed bytes = by (before_of bytes)
  where
    of : (b : Before) (x : Bool) → is_no_answer (if x then behind (length b.written) (live_answer (b.read ++ b.rest)) else illegal (other_line b.written (told b.read))).status ≡ false
    of b true = own_status (b.read ++ b.rest)
    of b false = refl

    by : (o : Option Before) → is_no_answer (resumed_answer o).status ≡ false
    by None = refl
    by (Some b) = of b (is_own b)

or_last : (x y : Bool) → y ≡ true → (x || y) ≡ true
or_last true y e = refl
or_last false y e = e

-- too many bytes settle it
pub long_resumed : (bytes : List ℕ) → longest_resumed < length bytes → is_resume_settled bytes ≡ true
unfolding before_of
long_resumed bytes l = elim (there (codes "RECORDS") longest_input bytes (omega arith) (omega (arith, l))) [
  | inl none ↦ ap (λ (x : Bool). x || has_no_output (portion (codes "RECORDS") longest_input bytes) || settles (before_of bytes)) none
  | inr some ↦ output some.0 some.1
]
  where
    goes_on : (s t : List ℕ × List ℕ) → portion (codes "RECORDS") longest_input bytes ≡ Some s → portion (codes "OUTPUT") longest_output s.1 ≡ Some t → is_resume_settled bytes ≡ true
    goes_on s t e f =
        let one = sizes_of (codes "RECORDS") longest_input bytes s (omega arith) e in
        let two = sizes_of (codes "OUTPUT") longest_output s.1 t (omega arith) f in
        let sum = length-append s.0 t.1 in
        let a = one.whole in
        let b = two.whole in
        let c = two.first in
        let settled : is_settled_by (s.0 ++ t.1) ≡ true = long_settles (s.0 ++ t.1) (omega (arith, l, a, b, c, sum)) in
        let last : settles (before_of bytes) ≡ true =
        ap (λ (o : Option (List ℕ × List ℕ)). settles (behind_records o)) e ∙ ap (λ (o : Option (List ℕ × List ℕ)). settles (with_written s.0 o)) f
        ∙ or_last (not (is_own (record { read = s.0; written = t.0; rest = t.1 }))) (is_settled_by (s.0 ++ t.1)) settled in
        or_last (has_no_header bytes) (settles (before_of bytes)) last

    output : (s : List ℕ × List ℕ) → portion (codes "RECORDS") longest_input bytes ≡ Some s → is_resume_settled bytes ≡ true
    output s e =
        let one = sizes_of (codes "RECORDS") longest_input bytes s (omega arith) e in
        let a = one.whole in
        let c = one.first in
        elim (there (codes "OUTPUT") longest_output s.1 (omega arith) (omega (arith, l, a, c))) [
          | inl none ↦
              let last : has_no_output (portion (codes "RECORDS") longest_input bytes) ≡ true = ap has_no_output e ∙ none in
              let head : has_no_header bytes ≡ true = or_last (is_no_header (codes "RECORDS") longest_input bytes (first_line bytes)) (has_no_output (portion (codes "RECORDS") longest_input bytes)) last in
              ap (λ (x : Bool). x || settles (before_of bytes)) head
          | inr some ↦ goes_on s some.0 e some.1
        ]
