-- The answer to an input that comes record by record.
use Rattle.std.specs.Prelude.{ℕ, ◌+◌, Bool, false, not, ◌||◌, nat_le, if◌then◌else◌, List, ◌++◌, length, take}
use Rattle.batch_records.specs.declared.day.DayCode.TheVariants as day_codes
use Rattle.program_answers.specs.Answers.{Answer, refusal_text, size_text}
use Rattle.program_answers.specs.Limits
use Rattle.live_records.specs.Heard.{has_end, heard_in}
use Rattle.live_day.specs.Told.{has_come, told_in}

-- how many bytes an input may have
abbrev pub longest_input : ℕ
longest_input = Limits.longest_input

-- as much of an input as is looked at, and whether that is all
abbrev pub looked_at : List ℕ → List ℕ
looked_at input = take longest_input input

abbrev pub is_all : List ℕ → Bool
is_all input = nat_le (length input) longest_input

-- Its status, and all that is told. A bad record before the day began is told with what records call for. Where the input ends without
-- END, and where it doesn't end within the greatest size, that is told after it.
unfoldable pub live_answer : List ℕ → Answer
live_answer input =
    let all = is_all input in
    let seen = looked_at input in
    let h = heard_in all seen in
    let text = told_in all seen in
    if h.broken then record { status = 3; text = text }
    else if not (has_come all seen) then record { status = 7; text = text ++ size_text }
    else if has_end h then record { status = 0; text = text }
    else record { status = 3; text = text ++ refusal_text (h.count + 1) day_codes.Cut }

abbrev pub live_text : List ℕ → List ℕ
live_text input = (live_answer input).text

-- Nothing that could follow these bytes changes the answer: a bad record ended the run, the input has ended with a line END, or it is
-- too long.
abbrev pub is_settled_by : List ℕ → Bool
is_settled_by input = (heard_in false (looked_at input)).broken || has_come false (looked_at input) || not (is_all input)
