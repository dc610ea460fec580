-- What contracts see of rows: the rows, each a list of its items, and the room that is left.
use Rattle.std.specs.Prelude.{ℕ, zero, suc, ◌+◌, ◌-◌, List, [], ◌∷◌, ◌++◌, length, take, get_or, slice_get, slice_set, Option}

pub record Rows (X : Type 0) : Type 0 where
  pub rows : List (List X)
  pub room_for_rows : ℕ
  pub room_for_items : ℕ

-- no rows
abbrev pub with_room : {X : Type 0} → ℕ → ℕ → Rows X
with_room rows items = record { rows = []; room_for_rows = rows; room_for_items = items }

-- one more row, which has no items yet
abbrev pub begun : {X : Type 0} → Rows X → Rows X
begun r = record { rows = r.rows ++ [] ∷ []; room_for_rows = r.room_for_rows - 1; room_for_items = r.room_for_items }

-- rows with one more item at the end of the last
unfoldable pub with_item : {X : Type 0} → X → List (List X) → List (List X)
with_item x [] = []
with_item x (row ∷ []) = (row ++ x ∷ []) ∷ []
with_item x (row ∷ next ∷ rows) = row ∷ with_item x (next ∷ rows)

abbrev pub pushed : {X : Type 0} → X → Rows X → Rows X
pushed x r = record { rows = with_item x r.rows; room_for_rows = r.room_for_rows; room_for_items = r.room_for_items - 1 }

-- all rows but the last, whose room is free again
abbrev pub all_but_last : {X : Type 0} → List (List X) → List (List X)
all_but_last rows = take (length rows - 1) rows

abbrev pub last_row : {X : Type 0} → List (List X) → List X
last_row rows = get_or rows (length rows - 1) []

abbrev pub without_last : {X : Type 0} → Rows X → Rows X
without_last r = record { rows = all_but_last r.rows; room_for_rows = r.room_for_rows + 1; room_for_items = r.room_for_items + length (last_row r.rows) }

-- the row at an index, empty where there is none, and its item at an index
abbrev pub row_at : {X : Type 0} → List (List X) → ℕ → List X
row_at rows i = get_or rows i []

abbrev pub item_at : {X : Type 0} → List (List X) → ℕ → ℕ → Option X
item_at rows i k = slice_get (row_at rows i) k

-- rows of which an item is another one, and the same rows where there is no such item
unfoldable pub with_changed : {X : Type 0} → ℕ → ℕ → X → List (List X) → List (List X)
with_changed i k x [] = []
with_changed zero k x (row ∷ rows) = slice_set row k x ∷ rows
with_changed (suc i) k x (row ∷ rows) = row ∷ with_changed i k x rows

abbrev pub changed : {X : Type 0} → ℕ → ℕ → X → Rows X → Rows X
changed i k x r = record { rows = with_changed i k x r.rows; room_for_rows = r.room_for_rows; room_for_items = r.room_for_items }
