-- A run that goes on after a break: it is told what the one before it had read and written.
use Rattle.std.specs.Prelude.{ℕ, ◌+◌, ◌==◌, Bool, ◌&&◌, nat_eq, nat_le, if◌then◌else◌, List, [], ◌∷◌, ◌++◌, length, take, drop, decimal, codes, bytes_eq, Option, Some, None, not, is_some, ◌||◌, false}
use Rattle.std.specs.List.{list_all, starts_with}
use Rattle.std.specs.Str.Parse.{digits_value}
use Rattle.cash_amounts.specs.Names.{is_digit}
use Rattle.program_answers.specs.Answers.{Answer, illegal}
use Rattle.batch_records.specs.declared.day.DayCode.TheVariants as day_codes
use Rattle.program_answers.specs.Answers.{refused}
use Rattle.program_answers.specs.Limits.{longest_long_input}
use Rattle.live_day.specs.Told.{told}
use Rattle.live_day.specs.Answers.{is_settled_by, live_answer, longest_input, looked_at}

-- how much may have been written
abbrev pub longest_output : ℕ
longest_output = longest_long_input

-- the number of a text that is one, in decimal without a leading zero, and at most this
abbrev pub number_within : ℕ → List ℕ → Option ℕ
number_within most text =
    if list_all is_digit text && bytes_eq (decimal (digits_value 10 text)) text && nat_le (digits_value 10 text) most then Some (digits_value 10 text) else None

-- a line at the front of a text, without its LF, and what stands after it
abbrev pub one_more : ℕ → Option (List ℕ × List ℕ) → Option (List ℕ × List ℕ)
one_more b None = None
one_more b (Some split) = Some (b ∷ split.0, split.1)

unfoldable pub first_line : List ℕ → Option (List ℕ × List ℕ)
first_line [] = None
first_line (b ∷ text) = if b == 10 then Some ([], text) else one_more b (first_line text)

-- so many bytes, and what stands after them
abbrev pub split_at : List ℕ → Option ℕ → Option (List ℕ × List ℕ)
split_at text None = None
split_at text (Some n) = if nat_le n (length text) then Some (take n text, drop n text) else None

-- the bytes after a header that counts them: a line of this word, a semicolon, and their number
abbrev pub counted_by : List ℕ → ℕ → Option (List ℕ × List ℕ) → Option (List ℕ × List ℕ)
counted_by word most None = None
counted_by word most (Some split) =
    if starts_with nat_eq split.0 (word ++ codes ";") then split_at split.1 (number_within most (drop (length word + 1) split.0)) else None

abbrev pub portion : List ℕ → ℕ → List ℕ → Option (List ℕ × List ℕ)
portion word most text = counted_by word most (first_line text)

-- what a run before had read and written, and what comes from then on
pub record Before : Type 0 where
  pub read : List ℕ
  pub written : List ℕ
  pub rest : List ℕ

abbrev pub with_written : List ℕ → Option (List ℕ × List ℕ) → Option Before
with_written read None = None
with_written read (Some split) = Some (record { read = read; written = split.0; rest = split.1 })

abbrev pub behind_records : Option (List ℕ × List ℕ) → Option Before
behind_records None = None
behind_records (Some split) = with_written split.0 (portion (codes "OUTPUT") longest_output split.1)

unfoldable pub before_of : List ℕ → Option Before
before_of input = behind_records (portion (codes "RECORDS") longest_input input)

-- what was written begins what is told of what was read
abbrev pub is_own : Before → Bool
is_own b = starts_with nat_eq (told b.read) b.written

-- the line, from 1, in which a text first differs from another one, or goes on after it
unfoldable pub other_line : List ℕ → List ℕ → ℕ
other_line [] should = 1
other_line (b ∷ text) [] = 1
other_line (b ∷ text) (c ∷ should) = if b == c then (if b == 10 then 1 else 0) + other_line text should else 1

-- the rest of an answer
abbrev pub behind : ℕ → Answer → Answer
behind count answer = record { status = answer.status; text = drop count answer.text }

abbrev pub resumed_answer : Option Before → Answer
resumed_answer None = refused 0 day_codes.Cut
resumed_answer (Some b) = if is_own b then behind (length b.written) (live_answer (b.read ++ b.rest)) else illegal (other_line b.written (told b.read))

-- what is told while more may come: nothing, until all that was written is there
abbrev pub told_resumed : Option Before → List ℕ
told_resumed None = []
told_resumed (Some b) = if is_own b then drop (length b.written) (told (looked_at (b.read ++ b.rest))) else []

-- ---- whether bytes settle the answer

-- A line that isn't whole yet may still be a header: it is a front of the word and its semicolon, or has a number after them, of which
-- further digits may come.
abbrev pub may_begin : List ℕ → ℕ → List ℕ → Bool
may_begin word most text =
    if nat_le (length text) (length word + 1) then starts_with nat_eq (word ++ codes ";") text
    else starts_with nat_eq text (word ++ codes ";") && is_some (number_within most (drop (length word + 1) text))

-- A text whose first line is no header, whatever follows: it is another line, or can be none.
abbrev pub is_no_header : List ℕ → ℕ → List ℕ → Option (List ℕ × List ℕ) → Bool
is_no_header word most text None = not (may_begin word most text)
is_no_header word most text (Some split) = not (starts_with nat_eq split.0 (word ++ codes ";") && is_some (number_within most (drop (length word + 1) split.0)))

abbrev pub has_no_output : Option (List ℕ × List ℕ) → Bool
has_no_output None = false
has_no_output (Some split) = is_no_header (codes "OUTPUT") longest_output split.1 (first_line split.1)

-- a header isn't so
abbrev pub has_no_header : List ℕ → Bool
has_no_header input = is_no_header (codes "RECORDS") longest_input input (first_line input) || has_no_output (portion (codes "RECORDS") longest_input input)

abbrev pub settles : Option Before → Bool
settles None = false
settles (Some b) = not (is_own b) || is_settled_by (b.read ++ b.rest)

-- Nothing that could follow these bytes changes the answer: a header isn't so, what was written isn't this run's, or the input that it
-- goes on with is settled.
abbrev pub is_resume_settled : List ℕ → Bool
is_resume_settled input = has_no_header input || settles (before_of input)
