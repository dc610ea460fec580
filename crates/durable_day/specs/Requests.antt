-- The command line of the program.
use Rattle.std.specs.Prelude.{ℕ, if◌then◌else◌, List, [], ◌∷◌, Option, Some, None, bytes_eq, codes}
use Rattle.program_answers.specs.Numbers.{number_of}
use Rattle.durable_day.specs.declared.words.Request.{Request}
use Rattle.durable_day.specs.declared.words.Request.TheVariants as requests

abbrev pub run_with : Option ℕ → Option Request
run_with (Some calls) = Some (requests.Run calls)
run_with None = None

abbrev pub request_of_one : List ℕ → Option Request
request_of_one word = if bytes_eq word (codes "show") then Some requests.Show else None

abbrev pub request_of_two : List ℕ → List ℕ → Option Request
request_of_two word number = if bytes_eq word (codes "run") then run_with (number_of number) else None

-- what the words ask for, or none where they are no command line
abbrev pub request_of : List (List ℕ) → Option Request
request_of (word ∷ []) = request_of_one word
request_of (word ∷ number ∷ []) = request_of_two word number
request_of _ = None

abbrev pub usage_text : List ℕ
usage_text = codes "usage: durable_day run K | show\n"
