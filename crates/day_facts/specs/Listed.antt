-- Lists and rows that grow within room that was taken before.
use Rattle.std.specs.Prelude.{ℕ, ◌-◌, List, [], ◌∷◌, ◌++◌, length}

-- the items, and for how many more there is room
pub record Listed (X : Type 0) : Type 0 where
  pub items : List X
  pub room : ℕ

-- one more item
abbrev pub pushed : {X : Type 0} → X → Listed X → Listed X
pushed x list = record { items = list.items ++ x ∷ []; room = list.room - 1 }

-- other items in as much room
abbrev pub with_items : {X : Type 0} → List X → Listed X → Listed X
with_items xs list = record { items = xs; room = list.room }

-- rows of items, and for how many more rows, and items of all of them, there is room
pub record Rowed (X : Type 0) : Type 0 where
  pub rows : List (List X)
  pub room_for_rows : ℕ
  pub room_for_items : ℕ

-- one more row
abbrev pub row_pushed : {X : Type 0} → List X → Rowed X → Rowed X
row_pushed row r = record { rows = r.rows ++ row ∷ []; room_for_rows = r.room_for_rows - 1; room_for_items = r.room_for_items - length row }

-- other rows in as much room
abbrev pub with_rows : {X : Type 0} → List (List X) → Rowed X → Rowed X
with_rows rows r = record { rows = rows; room_for_rows = r.room_for_rows; room_for_items = r.room_for_items }
