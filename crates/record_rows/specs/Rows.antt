-- Records, and what is kept of them.
use Rattle.std.specs.Prelude.{ℕ, List, map, take}

-- the fields of a record
abbrev pub Fields : Type 0
Fields = List (List ℕ)

-- what is kept of a field: its first 64 bytes
abbrev pub kept_field : List ℕ → List ℕ
kept_field field = take 64 field

-- what is kept of a record: of each of its first 16 fields
abbrev pub kept_row : Fields → Fields
kept_row row = take 16 (map kept_field row)
