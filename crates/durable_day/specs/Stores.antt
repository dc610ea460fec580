-- What an open store is, and what its opening tells.
use Rattle.std.specs.Prelude.{◌≡◌, ℕ, suc, ◌+◌, true, false, List, length, Result, Ok, Err}
use Rattle.outside_io.specs.Causes.{one_more}
use Rattle.batch_records.specs.DayRecord.{Day}
use Rattle.batch_records.specs.Sound.{is_sound}
use Rattle.commit_journal.specs.Line.{History}
use Rattle.machine.specs.Legal.{IsLegal}
use Rattle.disk_model.specs.Crashes.{Only}
use Rattle.disk_model.specs.Cut.{IsCut}
use Rattle.durable_day.specs.declared.open_fault.OpenFault.{OpenFault}
use Rattle.durable_day.specs.declared.open_fault.OpenFault.TheVariants as open_faults
use Rattle.durable_day.specs.Bytes.{stored, StandsFor, front}
use Rattle.durable_day.specs.Reads.{finding_time}

-- What contracts see of a store: the day, the lines of its journal, and the disk.
pub record OnStore (D : Type 0) : Type 0 where
  pub day : Day
  pub history : History
  pub disk : D

-- The journal stands on the disk, whatever a crash leaves of it, and its closed gate stands at this place.
pub record IsDurable {D : Type 0} (seen : D → List ℕ) (image : D → List ℕ → Type 0) (J : History) (end : ℕ) (disk : D) : Type 0 where
  pub stands : StandsFor J (seen disk)
  pub only : Only (seen disk) (image disk)
  pub end_is : end ≡ length (stored J)

-- What callers know of a store: its journal is a legal one of the day, and its disk stands for it, whatever a crash leaves.
pub record IsStore {D : Type 0} (seen : D → List ℕ) (image : D → List ℕ → Type 0) (store : OnStore D) : Type 0 where
  pub sound : is_sound store.day ≡ true
  pub legal : IsLegal store.day store.history
  pub stands : StandsFor store.history (seen store.disk)
  pub only : Only (seen store.disk) (image store.disk)

-- ---- a line more

-- the disk that comes back
abbrev pub disk_at_end : {D : Type 0} → Result (OnStore D) D → D
disk_at_end (Ok store) = store.disk
disk_at_end (Err disk) = disk

-- ---- opening

abbrev pub StandsForNone : Day → List ℕ → Type 0
StandsForNone day bytes = (J : History) → IsLegal day J → StandsFor J bytes → ⊥

-- the disk that comes back
abbrev pub disk_of : {D : Type 0} → Result (OnStore D) (OpenFault D) → D
disk_of (Ok store) = store.disk
disk_of (Err (open_faults.Fault disk)) = disk
disk_of (Err (open_faults.Foreign disk place)) = disk
disk_of (Err (open_faults.Memory disk memory)) = disk

-- The journal is that of the bytes; or a call of the disk failed, the last and the only one; or the bytes stand for no legal
-- journal, and this is the first place at which no line of one stands; or memory was wanting.
abbrev pub Opens : {D : Type 0} → (D → List ℕ) → (D → List ℕ → Type 0) → (D → ℕ) → Day → D → Result (OnStore D) (OpenFault D) → Type 0
Opens seen image count day disk (Ok store) =
    IsStore seen image store × (store.day ≡ day) × (store.history ≡ (front day (seen disk)).0) × (count store.disk ≡ count disk)
Opens seen image count day disk (Err (open_faults.Fault later)) = count later ≡ one_more (count disk)
Opens seen image count day disk (Err (open_faults.Foreign later place)) =
    StandsForNone day (seen disk) × (place ≡ suc (length (front day (seen disk)).0)) × (count later ≡ count disk)
Opens seen image count day disk (Err (open_faults.Memory later memory)) = count later ≡ count disk

-- how many calls of the disk an opening takes: a sync, and the reads that find the journal
abbrev pub opening_time : Day → List ℕ → ℕ
opening_time day bytes = 1 + finding_time day bytes

-- Of a disk of which it is known after how many calls it is cut: an opening that asks for so many calls, so many syncs among them,
-- comes to its end exactly where they pass, and it is cut so many later then. Nothing of that where memory was wanting.
abbrev pub CutsOpening : {D : Type 0} → (D → List ℕ) → (D → ℕ → ℕ → ℕ → Type 0) → D → ℕ → ℕ → Result (OnStore D) (OpenFault D) → Type 0
CutsOpening seen cut_after disk calls syncs (Ok store) = IsCut seen cut_after disk store.disk true calls syncs 0 (λ (k : ℕ). seen disk)
CutsOpening seen cut_after disk calls syncs (Err (open_faults.Fault later)) = IsCut seen cut_after disk later false calls syncs 0 (λ (k : ℕ). seen disk)
CutsOpening seen cut_after disk calls syncs (Err (open_faults.Foreign later place)) = IsCut seen cut_after disk later true calls syncs 0 (λ (k : ℕ). seen disk)
CutsOpening seen cut_after disk calls syncs (Err (open_faults.Memory later memory)) = Unit {0}
