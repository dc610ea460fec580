-- What is passed on to a party of what a day tells.
use Rattle.std.specs.Prelude.{ℕ, ◌+◌, Bool, ◌||◌, ◌&&◌, if◌then◌else◌, nat_eq, nat_lt, List, [], ◌∷◌, ◌++◌, length, take, drop, Option, Some, None, codes}
use Rattle.std.specs.List.{position, starts_with}
use Rattle.std.specs.Option.{option_map_or}
use Rattle.outside_io.specs.TextLine.{line_feed, semicolon}
use Rattle.party_gate.specs.Lines.{open_line, whole_lines}
use Rattle.party_gate.specs.declared.passing.Ending.{Ending}
use Rattle.party_gate.specs.declared.passing.Ending.TheVariants as endings
use Rattle.party_gate.specs.declared.passing.Whose.{Whose}
use Rattle.party_gate.specs.declared.passing.Whose.TheVariants as whose

-- ---- whose a line is

abbrev pub begins_with : List ℕ → List ℕ → Bool
begins_with mark text = starts_with nat_eq text mark

-- what stands behind the first semicolon of a text; nothing where it has none
abbrev pub behind_field : List ℕ → List ℕ
behind_field text = option_map_or (λ (i : ℕ). drop (i + 1) text) (position (λ (b : ℕ). nat_eq b semicolon) text) []

-- a text whose first field is this one, with others behind it
abbrev pub begins_with_field : List ℕ → List ℕ → Bool
begins_with_field wanted text = begins_with wanted text && begins_with (codes ";") (drop (length wanted) text)

-- a status message to this party: S;place;to;..
abbrev pub is_own : List ℕ → List ℕ → Bool
is_own name line = begins_with (codes "S;") line && begins_with_field name (behind_field (behind_field line))

-- the last line that a day tells: OK;lines or E;record;code
abbrev pub is_last : List ℕ → Bool
is_last line = begins_with (codes "OK;") line || begins_with (codes "E;") line

-- How long a line may be that is passed on, its line feed counted. It shows in as many bytes whose it is.
abbrev pub longest_line : ℕ
longest_line = 4096

unfoldable pub whose_is : List ℕ → List ℕ → Whose
whose_is name line =
    let front = take longest_line line in
    if is_last front then whose.Last else if is_own name front then whose.Own else whose.Others

-- ---- what becomes of it

-- the bytes of it that are passed on: all of a line that is the party's, or the last, unless it is too long
abbrev pub passed_as : Whose → List ℕ → List ℕ
passed_as whose.Others line = []
passed_as whose.Own line = if nat_lt longest_line (length line) then [] else line
passed_as whose.Last line = if nat_lt longest_line (length line) then [] else line

-- whether nothing is passed on after it
abbrev pub ends_as : Whose → List ℕ → Option Ending
ends_as whose.Others line = None
ends_as whose.Own line = if nat_lt longest_line (length line) then Some endings.Long else None
ends_as whose.Last line = if nat_lt longest_line (length line) then Some endings.Long else Some endings.Last

abbrev pub passed : List ℕ → List ℕ → List ℕ
passed name line = passed_as (whose_is name line) line

abbrev pub end_with : List ℕ → List ℕ → Option Ending
end_with name line = ends_as (whose_is name line) line

-- ---- of lines, one after the other

abbrev pub end_or : Option Ending → Option Ending → Option Ending
end_or (Some e) other = Some e
end_or None other = other

unfoldable pub end_of : List ℕ → List (List ℕ) → Option Ending
end_of name [] = None
end_of name (line ∷ lines) = end_or (end_with name line) (end_of name lines)

abbrev pub unless_ended : Option Ending → List ℕ → List ℕ
unless_ended (Some e) text = []
unless_ended None text = text

unfoldable pub passed_on : List ℕ → List (List ℕ) → List ℕ
passed_on name [] = []
passed_on name (line ∷ lines) = passed name line ++ unless_ended (end_with name line) (passed_on name lines)

-- ---- of what a day tells

-- how many bytes it may have: 2^62
abbrev pub longest_told : ℕ
longest_told = 4611686018427387904

abbrev pub told_to : List ℕ → List ℕ → List ℕ
told_to name bytes = passed_on name (whole_lines bytes)

-- the line that is open can only end as one that is too long, and is the party's or the last
abbrev pub end_ahead : List ℕ → List ℕ → Option Ending
end_ahead name begun = if nat_lt longest_line (length begun + 1) then end_with name (begun ++ line_feed ∷ []) else None

-- how it ends, where nothing that follows changes what is passed on of it
abbrev pub end_told : List ℕ → List ℕ → Option Ending
end_told name bytes = end_or (end_of name (whole_lines bytes)) (end_ahead name (open_line bytes))

-- with its last line; with a line that was too long; or without either, and then it may have been too long itself
abbrev pub status_of : Option Ending → Bool → ℕ
status_of (Some endings.Last) long = 0
status_of (Some endings.Long) long = 7
status_of None long = if long then 7 else 0

abbrev pub is_told_long : List ℕ → Bool
is_told_long bytes = nat_lt longest_told (length bytes)
