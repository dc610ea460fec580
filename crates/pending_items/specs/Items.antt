-- What is kept of the pending items of a day, and for which lines.
use Rattle.std.specs.Prelude.{◌≡◌, ◌≤◌, ℕ, ◌+◌, ◌-◌, true, List, ◌∷◌, [], ◌++◌, Option, Some, None, suc, is_some, length, nat_le, option_map, replicate, slice_index_or, slice_set}
use Rattle.batch_records.specs.DayRecord.{Day}
use Rattle.commit_journal.specs.Line.{History}
use Rattle.machine.specs.declared.answers.Item.{Item}
use Rattle.day_facts.specs.Facts.{Facts, StandsFor}
use Rattle.payment_queue.specs.declared.row.Row.{Row}
use Rattle.payment_queue.specs.Queued.{Queued, cleared, first_free, grown, placed, row_in, rows}
use Rattle.pending_items.specs.Numbers.{is_item, number_count, number_in, starts_of}
use Rattle.pending_items.specs.Parts.{row_of, waits}

pub record Lists : Type 0 where
  -- by message: where the numbers of its items begin
  pub starts : List ℕ
  -- by number of an item: the slot at which its row stands, where it has one
  pub slots : List (Option ℕ)
  -- the rows
  pub queue : Queued
  -- how many bands the queue has
  pub accounts : ℕ
  -- for how many more messages there is room
  pub room : ℕ

abbrev pub slot_at : List (Option ℕ) → ℕ → Option ℕ
slot_at slots i = slice_index_or slots i None

-- the slot of an item's row
abbrev pub slot_of : Lists → Item → Option ℕ
slot_of v x = slot_at v.slots (number_in v.starts x)

-- the number of the item of a row
abbrev pub number_of_row : Option Row → Option ℕ
number_of_row row = option_map (λ (r : Row). r.place.entry) row

-- how many items have one
unfoldable pub taken_slots : List (Option ℕ) → ℕ
taken_slots [] = 0
taken_slots (None ∷ slots) = taken_slots slots
taken_slots (Some s ∷ slots) = suc (taken_slots slots)

-- slots of items and rows at slots are the same
pub record IsSound (v : Lists) : Type 0 where
  pub forth : (i s : ℕ) → slot_at v.slots i ≡ Some s → number_of_row (row_in v.queue.slots s) ≡ Some i
  pub back : (s : ℕ) (r : Row) → row_in v.queue.slots s ≡ Some r → slot_of v r.item ≡ Some s
  pub count : length (rows v.queue) ≡ taken_slots v.slots
  pub room : length v.queue.slots ≡ length v.slots
  pub accounts : v.queue.accounts ≡ v.accounts
  pub there : (s : ℕ) (r : Row) → row_in v.queue.slots s ≡ Some r → nat_le r.item.msg (length v.starts) ≡ true

-- ---- one row more, one row less

-- with the row at slot s, as that of the item of number i
abbrev pub entered_at : Lists → ℕ → ℕ → Row → Lists
entered_at v i s row = record v { slots = slice_set v.slots i (Some s); queue = placed v.queue s row }

-- at the first slot that is free
abbrev pub entered : Lists → ℕ → Row → Lists
entered v i row = entered_at v i (first_free v.queue.slots) row

-- without the row at slot s, which was that of the item of number i
abbrev pub left : Lists → ℕ → ℕ → Lists
left v i s = record v { slots = slice_set v.slots i None; queue = cleared v.queue s }

-- ---- a message more

-- with the numbers of a message of so many items, none of which has a row
abbrev pub arrived : ℕ → Lists → Lists
arrived items v = record { starts = v.starts ++ length v.slots ∷ []; slots = v.slots ++ replicate items None; queue = grown v.queue items; accounts = v.accounts; room = v.room - 1 }

-- of no messages, with room for so many, with so many items in all
abbrev pub none_arrived : ℕ → ℕ → ℕ → Lists
none_arrived accounts messages items = record {
  starts = [];
  slots = replicate 1 None;
  queue = record { slots = replicate 1 None; accounts = accounts; room = items };
  accounts = accounts;
  room = messages;
}

-- ---- what is kept of a history

-- there is room for the day, and each row is that of an item of the day
pub record Fits (day : Day) (J : History) (v : Lists) : Type 0 where
  pub sound : IsSound v
  pub starts : v.starts ≡ starts_of day
  pub items : length v.slots ≡ number_count day
  pub accounts : length day.accounts + 1 ≤ v.accounts
  pub rows : (s : ℕ) (r : Row) → row_in v.queue.slots s ≡ Some r → (is_item day r.item ≡ true) × (r ≡ row_of day J r.item)

-- the item has a row where it is pending, and only there
abbrev pub IsRight : Day → History → Lists → Item → Type 0
IsRight day J v x = is_some (slot_of v x) ≡ waits day J x

-- the rows are those of the items that are pending after the lines J
pub record KeepsRows (day : Day) (J : History) (v : Lists) : Type 0 where
  pub fits : Fits day J v
  pub right : (x : Item) → is_item day x ≡ true → IsRight day J v x

-- ---- what one more line changes

-- there is room for as much as before
pub record HasSameRoom (old new : Lists) : Type 0 where
  pub messages : new.room ≡ old.room
  pub items : new.queue.room ≡ old.queue.room

-- these items are right afterwards, and all that were so still are
pub record Renews (day : Day) (J : History) (which : Item → Type 0) (old new : Lists) : Type 0 where
  pub fits : Fits day J new
  pub own : (x : Item) → is_item day x ≡ true → which x → IsRight day J new x
  pub others : (x : Item) → is_item day x ≡ true → IsRight day J old x → IsRight day J new x
  pub spare : HasSameRoom old new

-- the same by the facts of any lines
abbrev pub RenewsBy : Day → Facts → (History → Item → Type 0) → Lists → Lists → Type 0
RenewsBy day facts which old new = (J : History) → StandsFor day J facts → Fits day J old → Renews day J (which J) old new

abbrev pub IsAny : Item → Type 0
IsAny x = Unit {0}
