-- What is noted of a file: what it held when it was opened, and each call that may have changed it since.
use Rattle.std.specs.Prelude.{ℕ, zero, suc, List, [], ◌∷◌}
use Rattle.disk_model.specs.Memory.{Past, Written, Synced}
use Rattle.outside_io.specs.GhostTexts.{bytes_of}
use Rattle.file_disk.specs.declared.record.Record.{Record, Noted'}
use Rattle.file_disk.specs.declared.record.Record.TheVariants as records

-- which call, what the clock showed after it, an offset, and bytes
abbrev pub Note : Type 0
Note = ℕ × ℕ × ℕ × List ℕ

-- the notes of a record, the newest first
abbrev pub notes_of : Record → List Note
notes_of records.Nothing = []
notes_of (Noted' marker before call moment at bytes) = (call, moment, at, bytes_of bytes) ∷ notes_of before

-- what it held when it was opened
abbrev pub held_by : ℕ → List ℕ → List ℕ → List ℕ
held_by zero bytes first = bytes
held_by (suc kind) bytes first = first

unfoldable pub first_of : List Note → List ℕ
first_of [] = []
first_of (n ∷ ns) = held_by n.0 n.3 (first_of ns)

-- the writes, also those that failed, and the syncs that succeeded
abbrev pub with_note : ℕ → ℕ → ℕ → List ℕ → List Past → List Past
with_note zero moment at bytes past = past
with_note (suc zero) moment at bytes past = record { moment = moment; event = Written at bytes } ∷ past
with_note (suc (suc kind)) moment at bytes past = record { moment = moment; event = Synced } ∷ past

unfoldable pub past_of : List Note → List Past
past_of [] = []
past_of (n ∷ ns) = with_note n.0 n.1 n.2 n.3 (past_of ns)
