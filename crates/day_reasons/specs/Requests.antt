-- The command line of the program.
use Rattle.std.specs.Prelude.{ℕ, List, [], ◌∷◌, Option, Some, None, option_map, codes}
use Rattle.program_answers.specs.Numbers.{number_of}
use Rattle.day_reasons.specs.declared.words.Request.{Request}

-- over all lines
abbrev pub whole_journal : Request
whole_journal = record { place = None }

-- over the first lines, up to this place
abbrev pub up_to : ℕ → Request
up_to place = record { place = Some place }

-- what the words ask for, or none where they are no command line
abbrev pub request_of : List (List ℕ) → Option Request
request_of [] = Some whole_journal
request_of (place ∷ []) = option_map up_to (number_of place)
request_of _ = None

abbrev pub usage_text : List ℕ
usage_text = codes "usage: day_reasons [PLACE]\n"
