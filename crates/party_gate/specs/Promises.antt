-- What the program promises of a run.
use Rattle.std.specs.Prelude.{ℕ, ◌≡◌, ◌⊎◌, Bool, ◌||◌, bytes_eq, if◌then◌else◌, List, [], ◌∷◌, ◌++◌, codes, filter, take, Option, Some, None}
use Rattle.cash_amounts.specs.Names.{is_name}
use Rattle.outside_io.specs.Pieces.{HasPut, IsCutShort}
use Rattle.program_answers.specs.LivePrograms.{LivePromises, LiveRun}
use Rattle.party_gate.specs.Lines.{whole_lines}
use Rattle.party_gate.specs.Out.{out_program}
use Rattle.party_gate.specs.Passing.{is_last, is_own, longest_line, told_to}

-- ---- what the words ask for: `out` and the name of a party

abbrev pub party_named : List ℕ → Option (List ℕ)
party_named name = if is_name name then Some name else None

abbrev pub request_of_two : List ℕ → List ℕ → Option (List ℕ)
request_of_two word name = if bytes_eq word (codes "out") then party_named name else None

abbrev pub request_of : List (List ℕ) → Option (List ℕ)
request_of (word ∷ name ∷ []) = request_of_two word name
request_of _ = None

abbrev pub usage_text : List ℕ
usage_text = codes "usage: party_gate out NAME\n"

-- ---- the lines that a party may see

-- it is a status message to the party, or the last line
abbrev pub is_for : List ℕ → List ℕ → Bool
is_for name line = is_last (take longest_line line) || is_own name (take longest_line line)

abbrev pub lines_for : List ℕ → List ℕ → List (List ℕ)
lines_for name bytes = filter (is_for name) (whole_lines bytes)

-- ---- the program

-- Of a run with these words. The fields after `asked` hold of any bytes, so of those that this run read.
pub record KeepsPromises (words : List (List ℕ)) (run : LiveRun) : Type 0 where
  -- other words get the usage line, or a front of it where a write failed, and nothing is read for them
  pub usage : request_of words ≡ None → ((run.status ≡ 2) × HasPut run.port run.port_after usage_text) ⊎ ((run.status ≡ 5) × IsCutShort run.port run.port_after usage_text)
  -- what a party is told is passed on while it comes: promptly, and nothing before its time
  pub asked : (name : List ℕ) → request_of words ≡ Some name → LivePromises (out_program name) run
  -- nobody sees another's: of two days that tell a party the same whole lines, its own and the last one, it is passed the same
  pub own : (name one other : List ℕ) → lines_for name one ≡ lines_for name other → told_to name one ≡ told_to name other
  -- what was passed on is never taken back: what bytes call for begins what more bytes call for
  pub begins : (name front rest : List ℕ) → (more : List ℕ) × (told_to name (front ++ rest) ≡ told_to name front ++ more)
