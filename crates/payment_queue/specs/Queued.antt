-- What contracts see of a queue: the rows that stand in it, each an item on an account, and the room that was taken.
use Rattle.std.specs.Prelude.{ℕ, zero, suc, ◌-◌, Bool, false, ◌&&◌, if◌then◌else◌, List, [], ◌∷◌, ◌++◌, Option, Some, None, option_map, option_and_then, filter, map, nat_eq, replicate, slice_index_or, slice_set}
use Rattle.std.specs.List.{find, list_any}
use Rattle.machine.specs.declared.answers.Item.{Item}
use Rattle.payment_queue.specs.declared.row.Priority.{Priority}
use Rattle.payment_queue.specs.declared.row.Priority.TheVariants.{Urgent, High, Normal}
use Rattle.payment_queue.specs.declared.row.Place.{Place}
use Rattle.payment_queue.specs.declared.row.Row.{Row}
use Rattle.payment_queue.specs.declared.row.Heads.{Heads}
use Rattle.payment_queue.specs.Standing.{rank, is_row_ahead, is_before, is_item, same_place}

-- for each slot the row that stands there, if one does; so many items can stand as there are slots. The accounts are numbered from 1
-- to `accounts`
pub record Queued : Type 0 where
  pub slots : List (Option Row)
  pub accounts : ℕ
  -- for how many more slots there is room
  pub room : ℕ

abbrev pub with_room : ℕ → ℕ → Queued
with_room accounts items = record { slots = replicate items None; accounts = accounts; room = 0 }

-- no slots, and room for so many
abbrev pub empty : ℕ → ℕ → Queued
empty accounts most = record { slots = []; accounts = accounts; room = most }

-- with so many slots more, at which nothing stands
abbrev pub grown : Queued → ℕ → Queued
grown q by = record q { slots = q.slots ++ replicate by None; room = q.room - by }

abbrev pub row_in : List (Option Row) → ℕ → Option Row
row_in slots s = slice_index_or slots s None

-- the rows that stand, by slot
unfoldable pub standing : List (Option Row) → List Row
standing [] = []
standing (None ∷ slots) = standing slots
standing (Some r ∷ slots) = r ∷ standing slots

abbrev pub rows : Queued → List Row
rows q = standing q.slots

-- ---- what stands in it

abbrev pub row : ℕ → Item → Priority → Place → Row
row a x p at = record { account = a; item = x; priority = p; place = at }

-- the item stands on the account
abbrev pub stands_on : List Row → ℕ → Item → Bool
stands_on rows a x = list_any (is_item a x) rows

-- some item stands on the account at this place
abbrev pub has_place : List Row → ℕ → Place → Bool
has_place rows a p = list_any (λ r. nat_eq r.account a && same_place r.place p) rows

abbrev pub row_of : List Row → ℕ → Item → Option Row
row_of rows a x = find (is_item a x) rows

-- ---- changes by one

-- the first slot at which nothing stands, where there is one
unfoldable pub first_free : List (Option Row) → ℕ
first_free [] = zero
first_free (None ∷ slots) = zero
first_free (Some r ∷ slots) = suc (first_free slots)

-- with the row at slot s
abbrev pub placed : Queued → ℕ → Row → Queued
placed q s r = record q { slots = slice_set q.slots s (Some r) }

-- with nothing at slot s
abbrev pub cleared : Queued → ℕ → Queued
cleared q s = record q { slots = slice_set q.slots s None }

-- the row is there, and of this item on this account
abbrev pub is_row_of : ℕ → Item → Option Row → Bool
is_row_of a x None = false
is_row_of a x (Some r) = is_item a x r

-- without the item on the account
abbrev pub left : Queued → ℕ → Item → Queued
left q a x = record q { slots = map (λ o. if is_row_of a x o then None else o) q.slots }

-- ---- the foremost of some rows: of highest priority and then of the earliest place

abbrev pub ahead_of : Option Row → Row → Row
ahead_of None r = r
ahead_of (Some best) r = if is_row_ahead r best then r else best

unfoldable pub foremost : List Row → Option Row
foremost [] = None
foremost (r ∷ rows) = Some (ahead_of (foremost rows) r)

abbrev pub item_of : Option Row → Option Item
item_of found = option_map (λ (r : Row). r.item) found

-- of the items on the account that stand before row x, the foremost
abbrev pub first_before : List Row → ℕ → Row → Option Item
first_before rows a x = item_of (foremost (filter (λ r. nat_eq r.account a && is_before r x) rows))

-- of the items on the account that stand before this item, the foremost
abbrev pub blocker : List Row → ℕ → Item → Option Item
blocker rows a x = option_and_then (first_before rows a) (row_of rows a x)

-- the same of the row at slot s
abbrev pub blocker_at : Queued → ℕ → Option Item
blocker_at q s = option_and_then (λ x. first_before (rows q) x.account x) (row_in q.slots s)

-- of the items of a priority on the account, the one of the earliest place
abbrev pub head : List Row → ℕ → Priority → Option Item
head rows a p = item_of (foremost (filter (λ r. nat_eq r.account a && nat_eq (rank r.priority) (rank p)) rows))

abbrev pub heads : List Row → ℕ → Heads
heads rows a = record { urgent = head rows a Urgent; high = head rows a High; normal = head rows a Normal }
