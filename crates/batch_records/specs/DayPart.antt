-- Where the day ends in an input: with the first line that is exactly END, or with the input.
use Rattle.std.specs.Prelude.{ℕ, Bool, true, false, ◌+◌, ◌==◌, ◌&&◌, ◌||◌, not, if◌then◌else◌, nat_eq, List, [], ◌∷◌, drop, Option, Some, None, option_map, unwrap_or}
use Rattle.std.specs.List.{list_all, starts_with}

-- whether bytes begin with this one
abbrev pub begins_with : ℕ → List ℕ → Bool
begins_with b [] = false
begins_with b (c ∷ rest) = c == b

-- how long the line end is at the front of the bytes: LF, CR, both, or the end of the input
abbrev pub line_end_len : List ℕ → Option ℕ
line_end_len [] = Some 0
line_end_len (c ∷ rest) =
    if c == 10 then Some 1
    else if c == 13 then (if begins_with 10 rest then Some 2 else Some 1)
    else None

-- the three bytes of END
abbrev pub end_word : List ℕ
end_word = 69 ∷ 78 ∷ 68 ∷ []

-- how long a line that says END is, with its end, where the bytes begin with one
unfoldable pub end_line_len : List ℕ → Option ℕ
end_line_len bytes = if starts_with nat_eq bytes end_word then option_map (λ n. 3 + n) (line_end_len (drop 3 bytes)) else None

-- whether a line starts after this byte, with these bytes following it
abbrev pub starts_line : ℕ → List ℕ → Bool
starts_line c rest = (c == 10) || ((c == 13) && not (begins_with 10 rest))

-- how long the day part at the front of the bytes is, where a line starts at their front or not
unfoldable pub part_len : Bool → List ℕ → ℕ
part_len start [] = 0
part_len start (c ∷ rest) = unwrap_or (if start then end_line_len (c ∷ rest) else None) (part_len (starts_line c rest) rest + 1)

-- how many bytes of an input belong to its day
abbrev pub day_len : List ℕ → ℕ
day_len input = part_len true input

-- line ends alone, which may follow a day
abbrev pub is_line_ends : List ℕ → Bool
is_line_ends bytes = list_all (λ b. (b == 10) || (b == 13)) bytes
