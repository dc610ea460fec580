-- What a queue keeps.
use Rattle.std.specs.Prelude.{◌≡◌, ℕ, ◌+◌, ◌*◌, ◌<◌, ◌≤◌, ◌^◌, true, List, Option, length, map, is_none, vec_len, vec_capacity}
use Rattle.payment_queue.specs.declared.row.Row.{Row}
use Rattle.payment_queue.specs.declared.index.Index.{Index}
use Rattle.payment_queue.specs.declared.queue.Queue.TheInside.{Inside}
use Rattle.payment_queue.specs.Chains.{AreApart}
use Rattle.payment_queue.specs.Queued.{Queued}
use Rattle.payment_queue.specs.Indexed.{AreSound, IsIndex, IsSized, band, live, position, row_at}

-- no item stands twice on an account
pub record StandOnce (slots : List (Option Row)) : Type 0 where
  pub once : (u v : ℕ) → live slots u ≡ true → live slots v ≡ true → (row_at slots u).account ≡ (row_at slots v).account → (row_at slots u).item ≡ (row_at slots v).item → u ≡ v

pub record IsKept (slots : List (Option Row)) (index : Index) : Type 0 where
  pub indexed : IsIndex slots index
  pub sized : IsSized (length slots) index
  pub sound : AreSound slots
  pub bands : (s : ℕ) → live slots s ≡ true → band slots s < length index.forward.ends.items
  pub apart : AreApart (live slots) (band slots) (position slots)
  pub once : StandOnce slots
  pub few : length slots < 2 ^ 32

-- there is room for so many slots more
pub record HasRoom (room : ℕ) (index : Index) : Type 0 where
  pub forward : vec_len index.forward.links + room ≤ vec_capacity index.forward.links
  pub backward : vec_len index.backward.links + room ≤ vec_capacity index.backward.links

abbrev pub queued_of : Inside → Queued
queued_of q = record { slots = q.rows.items; accounts = q.accounts; room = q.room }

pub record IsQueue (q : Inside) : Type 0 where
  pub is_kept : IsKept q.rows.items q.index
  pub bands : length q.index.forward.ends.items ≡ 3 * q.accounts + 3
  pub free : q.free.set ≡ map is_none q.rows.items
  pub rest : q.free.room ≡ q.room
  pub rows : vec_len q.rows + q.room ≤ vec_capacity q.rows
  pub spare : HasRoom q.room q.index
  pub few : length q.rows.items + q.room < 2 ^ 32
