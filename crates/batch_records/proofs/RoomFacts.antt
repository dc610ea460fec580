-- Rows of entries with room for more, as they grow and shrink.
use Rattle.std.proofs.Common.{◌≡◌, ◌∙◌, ◌<◌, ◌≤◌, ◌+◌, ◌-◌, ℕ, zero, suc, List, [], ◌∷◌, ◌++◌, length, take, get_or, sum_by, length-append, ap, refl, subst, sym, arith}
use Rattle.std.proofs.lemmas.List.Sums.{sum_by-cons}
use Rattle.row_list.specs.Rows.{Rows, begun, pushed, with_item, with_room, without_last}
use Rattle.batch_records.specs.Flat.{HaveRows, joined}
use Rattle.batch_records.specs.Growing.{entries_of}
use Rattle.batch_records.specs.Held.{HaveRoom, HeldMessages}
use Rattle.batch_records.specs.declared.day.Entry.{Entry}
use Rattle.batch_records.specs.declared.day.Message.{Message}
use Rattle.batch_records.specs.declared.day.MessageRecord.{MessageRecord}
use Rattle.batch_records.proofs.FlatFacts.{joined_length, joined_sum, rows_length}

-- what callers see of messages with room
abbrev pub shown : List Message → ℕ → ℕ → HeldMessages
shown list most entries = record { list = list; most_messages = most; most_entries = entries }

-- one item more
item_sum : {X : Type 0} (x : X) (rows : List (List X)) → 0 < length rows → sum_by length (with_item x rows) ≡ sum_by length rows + 1
unfolding with_item
item_sum x [] l = absurd (omega arith)
item_sum x (row ∷ []) l = omega (arith, sum_by-cons length (row ++ x ∷ []) [], sum_by-cons length row [], length-append row (x ∷ []))
item_sum x (row ∷ next ∷ rows) l = omega (arith, sum_by-cons length row (with_item x (next ∷ rows)), sum_by-cons length row (next ∷ rows), item_sum x (next ∷ rows) (omega arith))

item_length : {X : Type 0} (x : X) (rows : List (List X)) → length (with_item x rows) ≡ length rows
unfolding with_item
item_length x [] = refl
item_length x (row ∷ []) = refl
item_length x (row ∷ next ∷ rows) = ap suc (item_length x (next ∷ rows))

split_sum : {X : Type 0} (n : ℕ) (rows : List (List X)) → n + 1 ≡ length rows → sum_by length rows ≡ sum_by length (take n rows) + length (get_or rows n [])
split_sum n [] e = absurd (omega (arith, e))
split_sum zero (row ∷ []) e = omega (arith, sum_by-cons length row [])
split_sum zero (row ∷ next ∷ rows) e = absurd (omega (arith, e))
split_sum (suc n) (row ∷ rows) e = omega (arith, sum_by-cons length row rows, sum_by-cons length row (take n rows), split_sum n rows (omega (arith, e)))

split_length : {X : Type 0} (n : ℕ) (rows : List (List X)) → n + 1 ≡ length rows → length (take n rows) ≡ n
split_length n [] e = absurd (omega (arith, e))
split_length zero (row ∷ rows) e = refl
split_length (suc n) (row ∷ rows) e = ap suc (split_length n rows (omega (arith, e)))

-- room is what it was where a row is begun, an item comes to the last, or the last row goes
pub room_begun : (most entries capacity : ℕ) (rows : Rows Entry) → 0 < rows.room_for_rows → HaveRoom most entries capacity rows → HaveRoom most entries capacity (begun rows)
room_begun most entries capacity rows l h =
    let size : length (rows.rows ++ [] ∷ []) ≡ length rows.rows + 1 = length-append rows.rows ([] ∷ []) in
    let sum : sum_by length (rows.rows ++ [] ∷ []) ≡ sum_by length rows.rows = begun_sum rows.rows in
    (h.0, omega (arith, l, h.1, size), omega (arith, h.2, sum))
  where
    begun_sum : {X : Type 0} (xs : List (List X)) → sum_by length (xs ++ [] ∷ []) ≡ sum_by length xs
    begun_sum {X = X} [] = sum_by-cons (length {A = X}) [] []
    begun_sum (x ∷ xs) = omega (arith, sum_by-cons length x (xs ++ [] ∷ []), sum_by-cons length x xs, begun_sum xs)

pub room_pushed : (most entries capacity : ℕ) (entry : Entry) (rows : Rows Entry) → 0 < length rows.rows → 0 < rows.room_for_items → HaveRoom most entries capacity rows → HaveRoom most entries capacity (pushed entry rows)
room_pushed most entries capacity entry rows some l h =
    (h.0, omega (arith, h.1, item_length entry rows.rows), omega (arith, l, h.2, item_sum entry rows.rows some))

pub room_without : (most entries capacity : ℕ) (rows : Rows Entry) → 0 < length rows.rows → HaveRoom most entries capacity rows → HaveRoom most entries capacity (without_last rows)
room_without most entries capacity rows some h =
    let last : length rows.rows - 1 + 1 ≡ length rows.rows = omega (arith, some) in
    (h.0, omega (arith, some, h.1, split_length (length rows.rows - 1) rows.rows last), omega (arith, h.2, split_sum (length rows.rows - 1) rows.rows last))

-- there is room for one row more, and for one entry more
pub row_left : (most entries capacity : ℕ) (records : List MessageRecord) (rows : Rows Entry) → HaveRows records rows.rows → HaveRoom most entries capacity rows → length records < most → (0 < rows.room_for_rows) × (length records < capacity)
row_left most entries capacity records rows have h l =
    let size : length rows.rows ≡ length records = rows_length records rows.rows have in
    (omega (arith, size, l, h.1), omega (arith, l, h.0))

pub entry_left : (most entries capacity : ℕ) (records : List MessageRecord) (rows : Rows Entry) (held : HeldMessages) → HaveRows records rows.rows → HaveRoom most entries capacity rows
    → shown (joined records rows.rows) most entries ≡ held → entries_of held.list < held.most_entries → 0 < rows.room_for_items
entry_left most entries capacity records rows held have h e l =
    let sum : sum_by length rows.rows ≡ entries_of (joined records rows.rows) = joined_sum records rows.rows have in
    let low : entries_of (joined records rows.rows) < entries = subst (λ (x : HeldMessages). entries_of x.list < x.most_entries) (sym e) l in
    omega (arith, sum, low, h.2)

pub held_as : (list other : List Message) (most entries : ℕ) → list ≡ other → shown list most entries ≡ shown other most entries
held_as list other most entries e = λ i. shown (e i) most entries

pub held_most : (records : List MessageRecord) (rows : List (List Entry)) (most entries : ℕ) (held : HeldMessages) → shown (joined records rows) most entries ≡ held → length held.list < held.most_messages → length records < most
held_most records rows most entries held e l =
    let low : length (joined records rows) < most = subst (λ (x : HeldMessages). length x.list < x.most_messages) (sym e) l in
    omega (arith, low, joined_length records rows)

-- the capacity is as it was, and these are the rows
pub room_kept : (most entries capacity more : ℕ) (rows new : Rows Entry) → more ≡ capacity → new ≡ rows → HaveRoom most entries capacity rows → HaveRoom most entries more new
room_kept most entries capacity more rows new c e h = subst (λ n. HaveRoom most entries n new) (sym c) (subst (HaveRoom most entries capacity) (sym e) h)

pub room_first : (most entries capacity : ℕ) (rows : Rows Entry) → most ≤ capacity → rows ≡ with_room most entries → HaveRoom most entries capacity rows
room_first most entries capacity rows l e = subst (HaveRoom most entries capacity) (sym e) (l, omega arith, omega arith)
