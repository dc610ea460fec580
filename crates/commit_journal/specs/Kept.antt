-- What contracts see of a journal and of a list of moves: what was pushed, and the room that is left.
use Rattle.std.specs.Prelude.{ℕ, ◌-◌, List, [], ◌∷◌, length, ◌≡◌, ◌++◌, Some}
use Rattle.commit_journal.specs.declared.line.Head.{Head}
use Rattle.commit_journal.specs.declared.line.Move.{Move}
use Rattle.commit_journal.specs.Line.{History}
use Rattle.commit_journal.specs.FieldGrammar.{Read}

-- moves in the order of pushing, and for how many more there is room
pub record MovesInRoom : Type 0 where
  pub moves : List Move
  pub room : ℕ

-- the lines of a journal, the newest first, and for how many lines and moves there is room
pub record Kept : Type 0 where
  pub history : History
  pub room_for_lines : ℕ
  pub room_for_moves : ℕ

abbrev pub with_room : ℕ → ℕ → Kept
with_room lines moves = record { history = []; room_for_lines = lines; room_for_moves = moves }

-- one more line, which takes the room of one line and of its moves
abbrev pub pushed : Kept → Head → List Move → Kept
pushed j h ms = record {
  history = record { head = h; moves = ms } ∷ j.history;
  room_for_lines = j.room_for_lines - 1;
  room_for_moves = j.room_for_moves - length ms;
}

-- the move that was read is put at the end of a list
pub record IsOneMore (old new : MovesInRoom) (read : Read Move) (rest : List ℕ) : Type 0 where
  pub move : Move
  pub is : read ≡ Some (move, rest)
  pub put : new ≡ record { moves = old.moves ++ move ∷ []; room = old.room - 1 }
