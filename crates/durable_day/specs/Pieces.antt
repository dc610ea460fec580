-- The bytes of one line as they are put down on a disk, and the room in which they are made.
use Rattle.std.specs.Prelude.{ℕ, ◌+◌, ◌-◌, ◌^◌, Bool, List, [], ◌∷◌, ◌++◌, length, Some}
use Rattle.std.specs.Int.{w32, to_be_bytes}
use Rattle.outside_io.specs.Pieces.{SinkState, no_reading}

-- what stands after the gate of a line: the length of its text, the text, and the closed gate that is to be the next line's
abbrev pub behind_gate : List ℕ → List ℕ
behind_gate text = to_be_bytes w32 (length text) ++ (text ++ 0 ∷ [])

-- a text with room for its length in front and for a gate after it
abbrev pub unsealed : List ℕ → List ℕ
unsealed text = (0 ∷ 0 ∷ 0 ∷ 0 ∷ []) ++ (text ++ 0 ∷ [])

-- what contracts see of the room: what was written, how often a write has failed, and whether the last one did
pub record OnRoom : Type 0 where
  pub written : List ℕ
  pub faults : ℕ
  pub failed : Bool

-- how many bytes the room is for
abbrev pub room_size : ℕ
room_size = 2 ^ 21 + 5

abbrev pub room_state : OnRoom → SinkState
room_state room = record { written = Some room.written; faults = room.faults; failed = room.failed; sure = room_size - length room.written; layers = []; reading = no_reading }
