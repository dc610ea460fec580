-- The command line of the program, and whose page is asked for.
use Rattle.std.specs.Prelude.{ℕ, Bool, true, if◌then◌else◌, List, [], ◌∷◌, Option, Some, None, bytes_eq, codes}
use Rattle.cash_amounts.specs.Names.{is_name}
use Rattle.machine.specs.Words.{same_name}
use Rattle.day_page.specs.declared.words.Request.{Request}

-- of the whole day
abbrev pub whole_day : Request
whole_day = record { party = None }

abbrev pub page_named : List ℕ → Option Request
page_named name = if is_name name then Some (record { party = Some name }) else None

abbrev pub request_of_one : List ℕ → Option Request
request_of_one word = if bytes_eq word (codes "page") then Some whole_day else None

abbrev pub request_of_two : List ℕ → List ℕ → Option Request
request_of_two word name = if bytes_eq word (codes "page") then page_named name else None

-- what the words ask for, or none where they are no command line
abbrev pub request_of : List (List ℕ) → Option Request
request_of (word ∷ []) = request_of_one word
request_of (word ∷ name ∷ []) = request_of_two word name
request_of _ = None

abbrev pub usage_text : List ℕ
usage_text = codes "usage: day_page page [NAME]\n"

-- ---- the party

abbrev pub is_party : Option (List ℕ) → List ℕ → Bool
is_party None name = true
is_party (Some party) name = same_name name party

-- the name is that of the party whose page it is; on the page of the whole day each name is
abbrev pub is_partys : Request → List ℕ → Bool
is_partys r name = is_party r.party name
