-- What a run that goes on is told first, by the places where it stands.
use Rattle.std.specs.Prelude.{ℕ, ◌≡◌, ◌+◌, ◌-◌, ◌≤◌, ◌<◌, true, false, if◌then◌else◌, nat_eq, List, length, take, drop, codes, Option, Some, None}
use Rattle.std.specs.List.{starts_with}
use Rattle.live_day.specs.Answers.{longest_input}
use Rattle.live_day.specs.Resumed.{Before, before_of, first_line, has_no_header, is_no_header, number_within, portion}
use Rattle.live_day.specs.declared.beginning.Beginning.{Beginning}
use Rattle.live_day.specs.declared.beginning.Beginning.TheVariants as beginnings
use Rattle.live_day.specs.declared.beginning.Portion.{Portion}
use Rattle.live_day.specs.declared.beginning.Portion.TheVariants as portions

-- the part of a text from one place up to another
abbrev pub part : List ℕ → ℕ → ℕ → List ℕ
part text start end = take (end - start) (drop start text)

-- the number in a line that is a header of this word, which ends with a semicolon
abbrev pub count_in : List ℕ → ℕ → List ℕ → Option ℕ
count_in word most line = if starts_with nat_eq line word then number_within most (drop (length word) line) else None

-- so many bytes from a place on, where a header counts them
abbrev pub CountsFrom : List ℕ → ℕ → Option ℕ → Portion → Type 0
CountsFrom text start count portions.Short = (n : ℕ) × (count ≡ Some n) × (length text < start + n)
CountsFrom text start count portions.NoHeader = count ≡ None
CountsFrom text start count (portions.Whole from end) = (n : ℕ) × (count ≡ Some n) × (from ≡ start) × (end ≡ start + n) × (start + n ≤ length text)

-- what stands after a header of this word
abbrev pub IsPortion : List ℕ → ℕ → List ℕ → Portion → Type 0
IsPortion word most text portions.Short = (portion word most text ≡ None) × (is_no_header word most text (first_line text) ≡ false)
IsPortion word most text portions.NoHeader = (portion word most text ≡ None) × (is_no_header word most text (first_line text) ≡ true)
IsPortion word most text (portions.Whole start end) = (start ≤ end) × (end ≤ length text) × (portion word most text ≡ Some (part text start end, drop end text)) × (is_no_header word most text (first_line text) ≡ false)

-- what had been read stands here
abbrev pub IsRead : List ℕ → ℕ → ℕ → Type 0
IsRead input read read_end = IsPortion (codes "RECORDS") longest_input input (portions.Whole read read_end)

-- where what a run before had read and written stands, and where the input goes on
abbrev pub before_at : List ℕ → ℕ → ℕ → ℕ → ℕ → Before
before_at input read read_end written written_end = record { read = part input read read_end; written = part input written written_end; rest = drop written_end input }

abbrev pub IsBeginning : List ℕ → Beginning → Type 0
IsBeginning input beginnings.Short = (before_of input ≡ None) × (has_no_header input ≡ false)
IsBeginning input beginnings.NoHeader = (before_of input ≡ None) × (has_no_header input ≡ true)
IsBeginning input (beginnings.Whole read read_end written written_end) =
    (read ≤ read_end) × (read_end ≤ length input) × (written ≤ written_end) × (written_end ≤ length input) × (before_of input ≡ Some (before_at input read read_end written written_end)) × (has_no_header input ≡ false)
