-- Rows in slots, and their index as it is kept.
use Rattle.std.specs.Prelude.{◌≡◌, ◌≢◌, ℕ, ◌+◌, ◌-◌, ◌*◌, ◌^◌, ◌<◌, ◌≤◌, ◌++◌, Bool, true, false, List, Option, Some, None, length, replicate, is_some, unwrap_or, vec_len, vec_capacity}
use Rattle.machine.specs.declared.answers.Item.{Item}
use Rattle.payment_queue.specs.declared.row.Priority.TheVariants.{Urgent}
use Rattle.payment_queue.specs.declared.row.Place.{Place}
use Rattle.payment_queue.specs.declared.row.Row.{Row}
use Rattle.payment_queue.specs.declared.index.Index.{Index}
use Rattle.payment_queue.specs.Standing.{is_row_ahead, rank}
use Rattle.payment_queue.specs.Queued.{row_in}
use Rattle.payment_queue.specs.Chains.{IsChained}
use Rattle.payment_queue.specs.Linked.{step_of, IsBare}

-- ---- a row by its slot

-- a row stands at the slot
abbrev pub live : List (Option Row) → ℕ → Bool
live slots s = is_some (row_in slots s)

-- what is read where none stands
abbrev pub blank : Row
blank = record { account = 0; item = record { msg = 0; entry = 0 }; priority = Urgent; place = record { active = 0; intake = 0; entry = 0 } }

abbrev pub row_at : List (Option Row) → ℕ → Row
row_at slots s = unwrap_or (row_in slots s) blank

-- each account has a band for each priority
abbrev pub row_band : Row → ℕ
row_band r = 3 * r.account + rank r.priority

abbrev pub band : List (Option Row) → ℕ → ℕ
band slots s = row_band (row_at slots s)

-- a number for each place, in the order of places
abbrev pub key : Place → ℕ
key p = (p.active * 2 ^ 32 + p.intake) * 2 ^ 32 + p.entry

abbrev pub position : List (Option Row) → ℕ → ℕ
position slots s = key (row_at slots s).place

-- positions the other way round
abbrev pub reversed : List (Option Row) → ℕ → ℕ
reversed slots s = 2 ^ 96 - position slots s

pub record IsSmall (p : Place) : Type 0 where
  pub active : p.active < 2 ^ 32
  pub intake : p.intake < 2 ^ 32
  pub entry : p.entry < 2 ^ 32

pub record AreSound (slots : List (Option Row)) : Type 0 where
  pub places : (s : ℕ) → IsSmall (row_at slots s).place

-- no row has the band and the position of this one
pub record IsFree (slots : List (Option Row)) (row : Row) : Type 0 where
  pub free : (u : ℕ) → live slots u ≡ true → band slots u ≡ row_band row → position slots u ≢ key row.place

-- ---- an index

pub record IsIndex (slots : List (Option Row)) (index : Index) : Type 0 where
  pub forward : IsChained (live slots) (band slots) (position slots) (step_of index.forward)
  pub backward : IsChained (live slots) (band slots) (reversed slots) (step_of index.backward)

-- it has so many slots, and as many bands forward and backward
pub record IsSized (slots : ℕ) (index : Index) : Type 0 where
  pub forward : length index.forward.links.items ≡ slots
  pub backward : length index.backward.links.items ≡ slots
  pub bands : length index.backward.ends.items ≡ length index.forward.ends.items

pub record KeepsSize (old new : Index) : Type 0 where
  pub forward : length new.forward.links.items ≡ length old.forward.links.items
  pub backward : length new.backward.links.items ≡ length old.backward.links.items
  pub bands : length new.forward.ends.items ≡ length old.forward.ends.items
  pub ends : length new.backward.ends.items ≡ length old.backward.ends.items
  pub forward_len : vec_len new.forward.links ≡ vec_len old.forward.links
  pub backward_len : vec_len new.backward.links ≡ vec_len old.backward.links
  pub forward_room : vec_capacity new.forward.links ≡ vec_capacity old.forward.links
  pub backward_room : vec_capacity new.backward.links ≡ vec_capacity old.backward.links

-- so many slots more, after which nothing stands
pub record IsGrown (by : ℕ) (old new : Index) : Type 0 where
  pub forward : new.forward.links.items ≡ old.forward.links.items ++ replicate by None
  pub backward : new.backward.links.items ≡ old.backward.links.items ++ replicate by None
  pub bands : new.forward.ends.items ≡ old.forward.ends.items
  pub ends : new.backward.ends.items ≡ old.backward.ends.items
  pub forward_len : vec_len new.forward.links ≡ vec_len old.forward.links + by
  pub backward_len : vec_len new.backward.links ≡ vec_len old.backward.links + by
  pub forward_room : vec_capacity old.forward.links ≤ vec_capacity new.forward.links
  pub backward_room : vec_capacity old.backward.links ≤ vec_capacity new.backward.links

-- nothing is in it
pub record IsEmpty (index : Index) : Type 0 where
  pub forward : IsBare index.forward
  pub backward : IsBare index.backward

-- ---- slots that may be none

abbrev pub IsLive : List (Option Row) → Option ℕ → Type 0
IsLive slots None = Unit {0}
IsLive slots (Some s) = live slots s ≡ true

abbrev pub item_at : List (Option Row) → Option ℕ → Option Item
item_at slots None = None
item_at slots (Some s) = Some (row_at slots s).item

-- the row of the slot is ahead of this one
abbrev pub slot_ahead : List (Option Row) → Option ℕ → Row → Bool
slot_ahead slots None x = false
slot_ahead slots (Some s) x = is_row_ahead (row_at slots s) x
