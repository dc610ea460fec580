-- What a disk has while a line is appended to its store, and what a crash may then leave.
use Rattle.std.specs.Prelude.{◌≡◌, ℕ, suc, ◌+◌, if◌then◌else◌, nat_lt, List, [], ◌∷◌, ◌++◌, length}
use Rattle.commit_journal.specs.Line.{History}
use Rattle.commit_journal.specs.Text.{line_text}
use Rattle.disk_model.specs.Crashes.{overwritten}
use Rattle.disk_model.specs.Cut.{once}
use Rattle.durable_day.specs.Bytes.{entry, stored}
use Rattle.durable_day.specs.Pieces.{behind_gate}

-- A gate stands after the front, and after an open one the piece. Whatever else a crash leaves after the front, an open gate is
-- never in front of less than the whole piece.
pub record MayHaveGrown (front piece bytes : List ℕ) : Type 0 where
  pub gate : ℕ
  pub rest : List ℕ
  pub bytes_are : bytes ≡ front ++ gate ∷ rest
  pub whole : gate ≡ 1 → (tail : List ℕ) × (rest ≡ piece ++ tail)

-- an open gate stands after the front, and then the piece
abbrev pub HasGrown : List ℕ → List ℕ → List ℕ → Type 0
HasGrown front piece bytes = (tail : List ℕ) × (bytes ≡ front ++ 1 ∷ (piece ++ tail))

-- how many bytes are written to append the newest line: those after its gate, the next gate among them, and then its gate
abbrev pub newest_bytes : History → ℕ
newest_bytes [] = 0
newest_bytes (l ∷ J) = length (entry (suc (length J)) l) + 1

-- what is seen after so many of the four calls that append a piece after the gate at this place: a write, a sync, that of the gate,
-- and a sync
abbrev pub appended_by : ℕ → List ℕ → List ℕ → ℕ → List ℕ
appended_by end piece old calls =
    if nat_lt calls 3 then once old (overwritten (end + 1) piece old) calls
    else overwritten end (1 ∷ []) (overwritten (end + 1) piece old)

-- of those that append the newest line after the others
abbrev pub newest_by : History → List ℕ → ℕ → List ℕ
newest_by [] old calls = old
newest_by (l ∷ J) old calls = appended_by (length (stored J)) (behind_gate (line_text (suc (length J)) l)) old calls
