-- What a live day has to show of its answers.
use Rattle.std.proofs.Common.{◌≡◌, ◌+◌, ◌<◌, ◌++◌, ℕ, Bool, true, false, not, List, [], length, refl, ap}
use Rattle.std.specs.Prelude.{◌||◌, if◌then◌else◌}
use Rattle.std.proofs.lemmas.Bool.{lt-leb}
use Rattle.batch_records.specs.declared.day.DayCode.TheVariants as day_codes
use Rattle.program_answers.specs.Answers.{Answer, refusal_text, size_text}
use Rattle.program_answers.specs.Programs.{is_no_answer}
use Rattle.csv.specs.Reading.{strip_bom}
use Rattle.record_rows.specs.Lines.{line_from}
use Rattle.record_rows.specs.Machine.{rows_from}
use Rattle.live_records.specs.Heard.{has_end, heard, heard_in}
use Rattle.live_records.specs.WholeRecords.{whole_records}
use Rattle.live_day.specs.Answers.{is_all, is_settled_by, live_answer, longest_input, looked_at}
use Rattle.live_day.specs.Told.{has_come, told, told_calls, told_in}

-- the answers that an input may have: each begins with what the records call for
abbrev pub chosen : Bool → Bool → Bool → List ℕ → List ℕ → List ℕ → Answer
chosen x y z text cut size =
    if x then record { status = 3; text = text }
    else if y then record { status = 7; text = text ++ size }
    else if z then record { status = 0; text = text }
    else record { status = 3; text = text ++ cut }

chosen_status : (x y z : Bool) (text cut size : List ℕ) → is_no_answer (chosen x y z text cut size).status ≡ false
chosen_status true y z text cut size = refl
chosen_status false true z text cut size = refl
chosen_status false false true text cut size = refl
chosen_status false false false text cut size = refl

-- no answer has the status of another end
pub own_status : (input : List ℕ) → is_no_answer (live_answer input).status ≡ false
unfolding live_answer
own_status input =
    chosen_status (heard_in (is_all input) (looked_at input)).broken (not (has_come (is_all input) (looked_at input))) (has_end (heard_in (is_all input) (looked_at input))) (told_in (is_all input) (looked_at input))
    (refusal_text ((heard_in (is_all input) (looked_at input)).count + 1) day_codes.Cut) size_text

last_of : (a b c : Bool) → c ≡ false → (a || b || not c) ≡ true
last_of true b c e = refl
last_of false true c e = refl
last_of false false c e = ap not e

-- too many bytes settle it
pub long_settles : (input : List ℕ) → longest_input < length input → is_settled_by input ≡ true
long_settles input l = last_of (heard_in false (looked_at input)).broken (has_come false (looked_at input)) (is_all input) (lt-leb (length input) longest_input l)

pub none_told : told (looked_at []) ≡ []
unfolding told_in told_calls heard whole_records line_from rows_from strip_bom
none_told = refl
