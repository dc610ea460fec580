-- How many calls of a disk tell what stands on it.
use Rattle.std.specs.Prelude.{ℕ, ◌+◌, ◌*◌, ◌-◌, ◌||◌, Bool, if◌then◌else◌, nat_eq, nat_lt, List, [], ◌∷◌, length, take}
use Rattle.std.specs.Int.{w32, from_be_bytes}
use Rattle.batch_records.specs.DayRecord.{Day}
use Rattle.disk_model.specs.Cut.{IsCut}
use Rattle.disk_model.specs.Lasting.{StillLasts}
use Rattle.disk_model.specs.Runs.{OnlyLooks}
use Rattle.durable_day.specs.Bytes.{front}
use Rattle.durable_day.specs.Pieces.{room_size}

-- The reads after an open gate, with so much room for a text: one of the length, where four bytes are there for it, and one of the
-- text, where it is there whole and there is room for it.
abbrev pub reads_of_text : ℕ → List ℕ → ℕ
reads_of_text room bytes =
    if nat_lt (length bytes) 4 then 0
    else if nat_lt (length bytes - 4) (from_be_bytes w32 (take 4 bytes)) || nat_lt room (from_be_bytes w32 (take 4 bytes)) then 1
    else 2

-- those at a place: none after the end, else one of the gate, and where it is open those of the text
abbrev pub reads_at : ℕ → List ℕ → ℕ
reads_at room [] = 0
reads_at room (gate ∷ bytes) = 1 + (if nat_eq gate 1 then reads_of_text room bytes else 0)

-- those that find the journal: three for each line, and those at the place after the last one
abbrev pub finding_time : Day → List ℕ → ℕ
finding_time day bytes = 3 * length (front day bytes).0 + reads_at room_size (front day bytes).1

-- Calls of which none writes: so many at most, and where it is known after how many calls the disk is cut, so many.
pub record ReadsOnly {D : Type 0} (seen : D → List ℕ) (image : D → List ℕ → Type 0) (clock : D → ℕ) (since : D → ℕ → List ℕ → Type 0) (lasts : D → ℕ → ℕ → ℕ → Type 0) (faults : D → ℕ) (cut_after : D → ℕ → ℕ → ℕ → Type 0) (old new : D) (well : Bool) (calls : ℕ) : Type 0 where
  pub looks : OnlyLooks seen image clock since old new calls
  pub sure : StillLasts lasts faults old new calls 0 0
  pub cut : IsCut seen cut_after old new well calls 0 0 (λ (k : ℕ). seen old)
