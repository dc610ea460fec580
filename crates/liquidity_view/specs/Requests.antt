-- The command line of the program.
use Rattle.std.specs.Prelude.{ℕ, if◌then◌else◌, List, [], ◌∷◌, Option, Some, None, bytes_eq, codes}
use Rattle.cash_amounts.specs.Names.{is_name}
use Rattle.program_answers.specs.Numbers.{number_of}
use Rattle.liquidity_view.specs.declared.words.Request.{Request}

abbrev pub request_named : List ℕ → ℕ → ℕ → Option Request
request_named name first last = if is_name name then Some (record { name = name; first = first; last = last }) else None

abbrev pub request_with : List ℕ → Option ℕ → Option ℕ → Option Request
request_with name (Some first) (Some last) = request_named name first last
request_with name _ _ = None

-- of four words
abbrev pub request_of_four : List ℕ → List ℕ → List ℕ → List ℕ → Option Request
request_of_four word name first last = if bytes_eq word (codes "view") then request_with name (number_of first) (number_of last) else None

-- what the words ask for, or none where they are no command line
abbrev pub request_of : List (List ℕ) → Option Request
request_of (word ∷ name ∷ first ∷ last ∷ []) = request_of_four word name first last
request_of _ = None

abbrev pub usage_text : List ℕ
usage_text = codes "usage: liquidity_view view NAME FIRST LAST\n"
