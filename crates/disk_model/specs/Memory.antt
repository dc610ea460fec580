-- A disk in memory: what was done to it, and what a crash may have left at each moment.
use Rattle.std.specs.Prelude.{◌≡◌, ◌⊎◌, refl, ℕ, ◌+◌, ◌-◌, ◌<◌, ◌≤◌, Bool, ◌&&◌, nat_lt, List, [], ◌∷◌, length, Result, is_ok, OnOk, OnErr}
use mathlib.Core.Logic.{inl, inr}
use Rattle.std.proofs.Common.{arith}
use Rattle.std.proofs.Math.Nat.{not-le_of_lt}
use Rattle.outside_io.specs.Causes.{one_more}
use Rattle.disk_model.specs.Crashes.{overwritten, Torn}
use Rattle.disk_model.specs.Cut.{IsCutForLess}
use Rattle.disk_model.specs.Lasting.{LastsForLess}

-- what was done to the bytes
pub data Event : Type 0 where
  Written : (at : ℕ) (piece : List ℕ) → Event
  Synced : Event

-- an event, and what the clock showed after it
pub record Past : Type 0 where
  pub moment : ℕ
  pub event : Event

-- ---- the bytes as a read gives them, and the images; the newest event stands first

abbrev pub after_event : Event → List ℕ → List ℕ
after_event (Written at piece) bytes = overwritten at piece bytes
after_event Synced bytes = bytes

unfoldable pub bytes_after : List ℕ → List Past → List ℕ
bytes_after first [] = first
bytes_after first (p ∷ ps) = after_event p.event (bytes_after first ps)

-- What a crash may leave after an event, with the bytes that a read gives after it, and the images before it. A write that a
-- crash tears leaves any bytes in its range, and where it goes past the old end any number of any bytes after that.
abbrev pub IsLeft : Event → List ℕ → (List ℕ → Type 0) → List ℕ → Type 0
IsLeft (Written at piece) bytes older c = (c ≡ bytes) ⊎ ((d : List ℕ) × older d × Torn at (length piece) d c)
IsLeft Synced bytes older c = c ≡ bytes

unfoldable pub IsImage : List ℕ → List Past → List ℕ → Type 0
IsImage first [] c = c ≡ first
IsImage first (p ∷ ps) c = IsLeft p.event (bytes_after first (p ∷ ps)) (IsImage first ps) c

-- an image of a moment before one of the events, which happened after time t, and not after now
unfoldable pub HadBeen : List ℕ → List Past → ℕ → ℕ → List ℕ → Type 0
HadBeen first [] t now c = ⊥
HadBeen first (p ∷ ps) t now c = ((t < p.moment) × (p.moment ≤ now) × IsImage first ps c) ⊎ HadBeen first ps t now c

-- ---- the disk

-- The bytes that it was made of; the events, the newest first; for how many more bytes and events there is room; how many
-- calls pass; the clock; and how many calls failed.
pub record MemoryDisk : Type 0 where
  pub first : List ℕ
  pub past : List Past
  pub room : ℕ
  pub records : ℕ
  pub passes : ℕ
  pub clock : ℕ
  pub faults : ℕ

abbrev pub new_disk : List ℕ → ℕ → ℕ → ℕ → MemoryDisk
new_disk bytes room records passes = record { first = bytes; past = []; room = room; records = records; passes = passes; clock = 0; faults = 0 }

abbrev pub disk_seen : MemoryDisk → List ℕ
disk_seen disk = bytes_after disk.first disk.past

abbrev pub disk_image : MemoryDisk → List ℕ → Type 0
disk_image disk c = IsImage disk.first disk.past c

-- what a crash from time t on may have left: now, or before a later event
abbrev pub disk_since : MemoryDisk → ℕ → List ℕ → Type 0
disk_since disk t c = disk_image disk c ⊎ HadBeen disk.first disk.past t disk.clock c

-- ---- its calls

-- the clock hasn't come to the last pass
abbrev pub passes_now : MemoryDisk → Bool
passes_now disk = nat_lt disk.clock disk.passes

-- and there is room for one more event
abbrev pub can_record : MemoryDisk → Bool
can_record disk = passes_now disk && nat_lt 0 disk.records

abbrev pub ticked : MemoryDisk → MemoryDisk
ticked disk = record {
  first = disk.first;
  past = disk.past;
  room = disk.room;
  records = disk.records;
  passes = disk.passes;
  clock = one_more disk.clock;
  faults = disk.faults;
}

-- a call failed: it is counted, and all else stays
abbrev pub failed : MemoryDisk → MemoryDisk
failed disk = record {
  first = disk.first;
  past = disk.past;
  room = disk.room;
  records = disk.records;
  passes = disk.passes;
  clock = one_more disk.clock;
  faults = one_more disk.faults;
}

-- an event happened, after which there is room for so many bytes
abbrev pub happened : MemoryDisk → Event → ℕ → MemoryDisk
happened disk event room = record {
  first = disk.first;
  past = record { moment = one_more disk.clock; event = event } ∷ disk.past;
  room = room;
  records = disk.records - 1;
  passes = disk.passes;
  clock = one_more disk.clock;
  faults = disk.faults;
}

abbrev pub wrote : MemoryDisk → ℕ → List ℕ → MemoryDisk
wrote disk at piece = happened disk (Written at piece) (disk.room - length piece)

abbrev pub synced : MemoryDisk → MemoryDisk
synced disk = happened disk Synced disk.room

-- the call succeeds exactly where the test says so; the one is the disk then, and else the other
pub record Decides {T E : Type 0} (test : Bool) (done undone new : MemoryDisk) (result : Result T E) : Type 0 where
  pub when : is_ok result ≡ test
  pub ok : OnOk result (new ≡ done)
  pub err : OnErr result (new ≡ undone)

-- So many calls more pass, and there is room for so many writes and syncs, and so many bytes.
pub record LastsFor (disk : MemoryDisk) (calls changes bytes : ℕ) : Type 0 where
  pub time : disk.clock + calls ≤ disk.passes
  pub records : changes ≤ disk.records
  pub room : bytes ≤ disk.room

-- Exactly so many calls more pass, while there is room for so many writes and syncs, and so many bytes.
pub record CutAfter (disk : MemoryDisk) (calls changes bytes : ℕ) : Type 0 where
  pub time : disk.clock + calls ≡ disk.passes
  pub records : changes ≤ disk.records
  pub room : bytes ≤ disk.room

-- ---- what the laws of a disk ask for

pub cut_for_less : IsCutForLess CutAfter
cut_for_less disk calls e b changes bytes fewer small h = record {
  time = h.time;
  records = omega (arith, h.records, fewer);
  room = omega (arith, h.room, small);
}

pub lasts_for_less : LastsForLess LastsFor
lasts_for_less disk c e b calls changes bytes less fewer small h = record {
  time = omega (arith, h.time, less);
  records = omega (arith, h.records, fewer);
  room = omega (arith, h.room, small);
}

pub read_is_image : (first : List ℕ) (past : List Past) → IsImage first past (bytes_after first past)
unfolding IsImage bytes_after
read_is_image first [] = refl
read_is_image first (p ∷ ps) = elim p.event as (λ (e : Event). IsLeft e (after_event e (bytes_after first ps)) (IsImage first ps) (after_event e (bytes_after first ps))) [
  | Written at piece ↦ inl refl
  | Synced ↦ refl
]

none_before : (first : List ℕ) (past : List Past) (now : ℕ) (c : List ℕ) → HadBeen first past now now c → ⊥
unfolding HadBeen
none_before first [] now c had = had
none_before first (p ∷ ps) now c (inl had) = absurd (not-le_of_lt had.0 had.1)
none_before first (p ∷ ps) now c (inr had) = none_before first ps now c had

pub none_but_now : (disk : MemoryDisk) (c : List ℕ) → disk_since disk disk.clock c → disk_image disk c
none_but_now disk c (inl now) = now
none_but_now disk c (inr had) = absurd (none_before disk.first disk.past disk.clock c had)
