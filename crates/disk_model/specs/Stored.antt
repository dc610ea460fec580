-- How a disk in memory is stored: the calls in order, and the pieces that were written one after the other.
use Rattle.std.specs.Prelude.{◌≡◌, ℕ, ◌+◌, ◌≤◌, List, [], ◌∷◌, take, drop, reverse, vec_len, vec_capacity}
use Rattle.disk_model.specs.declared.memory.Call.{Call}
use Rattle.disk_model.specs.declared.memory.Call.TheVariants as calls
use Rattle.disk_model.specs.declared.memory.Done.{Done}
use Rattle.disk_model.specs.declared.memory.MemDisk.TheInside.{Inside}
use Rattle.disk_model.specs.Memory.{Event, Written, Synced, Past, MemoryDisk, bytes_after}

-- how many bytes the call wrote
abbrev pub count_of : Call → ℕ
count_of (calls.Write at count) = count
count_of calls.Sync = 0

-- what was done, with the pieces up to then, the last byte first
abbrev pub event_of : Call → List ℕ → Event
event_of (calls.Write at count) bytes = Written at (reverse (take count bytes))
event_of calls.Sync bytes = Synced

-- the events of the calls and pieces, all of them with the newest first
unfoldable pub told : List Done → List ℕ → List Past
told [] bytes = []
told (d ∷ ds) bytes = record { moment = d.moment; event = event_of d.call bytes } ∷ told ds (drop (count_of d.call) bytes)

abbrev pub past_of : Inside → List Past
past_of disk = told (reverse disk.done.items) (reverse disk.pieces.items)

abbrev pub disk_of : Inside → MemoryDisk
disk_of disk = record {
  first = disk.first.items;
  past = past_of disk;
  room = disk.room;
  records = disk.records;
  passes = disk.passes;
  clock = disk.clock;
  faults = disk.faults;
}

-- no event happened after this moment
unfoldable pub AreUpTo : ℕ → List Past → Type 0
AreUpTo now [] = Unit {0}
AreUpTo now (p ∷ ps) = (p.moment ≤ now) × AreUpTo now ps

pub record IsStored (disk : Inside) : Type 0 where
  pub seen : disk.bytes.items ≡ bytes_after disk.first.items (past_of disk)
  pub room_for_bytes : vec_len disk.bytes + disk.room ≤ vec_capacity disk.bytes
  pub room_for_pieces : vec_len disk.pieces + disk.room ≤ vec_capacity disk.pieces
  pub room_for_calls : vec_len disk.done + disk.records ≤ vec_capacity disk.done
  pub up_to_now : AreUpTo disk.clock (past_of disk)
