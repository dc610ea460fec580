-- What contracts see of a file that is a disk.
use Rattle.std.specs.Prelude.{◌≡◌, ℕ, List, []}
use Rattle.disk_model.specs.Cut.{IsCutForLess}
use Rattle.disk_model.specs.Lasting.{LastsForLess}
use Rattle.disk_model.specs.Memory.{MemoryDisk, bytes_after}
use Rattle.disk_model.specs.Stored.{AreUpTo}
use Rattle.file_disk.specs.Notes.{first_of, notes_of, past_of}
use Rattle.file_disk.specs.declared.file.FileDisk.TheInside.{Inside}

-- as a disk in memory that is sure of no call
abbrev pub disk_of : Inside → MemoryDisk
disk_of disk = record {
  first = first_of (notes_of disk.record);
  past = past_of (notes_of disk.record);
  room = 0;
  records = 0;
  passes = 0;
  clock = disk.clock;
  faults = disk.faults;
}

pub record IsNoted (disk : Inside) : Type 0 where
  pub seen : disk.bytes.items ≡ bytes_after (first_of (notes_of disk.record)) (past_of (notes_of disk.record))
  pub up_to_now : AreUpTo disk.clock (past_of (notes_of disk.record))

abbrev pub opened : List ℕ → MemoryDisk
opened bytes = record { first = bytes; past = []; room = 0; records = 0; passes = 0; clock = 0; faults = 0 }

-- it is sure of no call, and it isn't known which one fails
abbrev pub NotSure : MemoryDisk → ℕ → ℕ → ℕ → Type 0
NotSure disk calls changes bytes = ⊥

pub lasts_for_less : LastsForLess NotSure
lasts_for_less disk c e b calls changes bytes less fewer small h = h

pub cut_for_less : IsCutForLess NotSure
cut_for_less disk calls e b changes bytes fewer small h = h
