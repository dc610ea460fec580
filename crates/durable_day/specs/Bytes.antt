-- What the bytes of a store stand for.
use Rattle.std.specs.Prelude.{◌≡◌, ◌≢◌, ℕ, zero, suc, Bool, false, not, nat_eq, List, [], ◌∷◌, ◌++◌, length, take, drop, Some}
use Rattle.std.specs.Int.{w32, to_be_bytes, from_be_bytes}
use Rattle.std.specs.Option.{option_map_or}
use Rattle.batch_records.specs.DayRecord.{Day}
use Rattle.commit_journal.specs.Line.{Line, History}
use Rattle.commit_journal.specs.Text.{line_text}
use Rattle.commit_journal.specs.FieldGrammar.{◌>>=◌, Read}
use Rattle.journal_replay.specs.Verdicts.{next_line, behind}

-- a text as it is stored after an open gate: the byte 1, the length of the text in four bytes, and the text
abbrev pub gated : List ℕ → List ℕ
gated text = 1 ∷ (to_be_bytes w32 (length text) ++ text)

-- the line at this place as it is stored
abbrev pub entry : ℕ → Line → List ℕ
entry place l = gated (line_text place l)

-- the lines of a journal as they are stored, in order
unfoldable pub stored : History → List ℕ
stored [] = []
stored (l ∷ J) = stored J ++ entry (suc (length J)) l

-- The bytes stand for the journal: its lines as they are stored, then a byte that isn't 1, and whatever stands after it.
pub record StandsFor (J : History) (bytes : List ℕ) : Type 0 where
  pub gate : ℕ
  pub rest : List ℕ
  pub bytes_are : bytes ≡ stored J ++ gate ∷ rest
  pub closed : gate ≢ 1

-- ---- the legal journal at the front of some bytes, computed

-- the text that stands after a gate, as long as the four bytes in front of it tell
abbrev pub text_behind : List ℕ → List ℕ
text_behind bytes = take (from_be_bytes w32 (take 4 (drop 1 bytes))) (drop 5 bytes)

-- the line that the machine makes after the history, where it stands stored in front; and the bytes after it
unfoldable pub next_stored : Day → History → List ℕ → Read Line
next_stored day J bytes = do
  read ← next_line day J (text_behind bytes)
  rest ← behind (entry (suc (length J)) read.0) bytes
  Some (read.0, rest)

-- a history with the machine's lines that stand stored next, at most so many of them; and the bytes after them
unfoldable pub lengthened : ℕ → Day → History → List ℕ → History × List ℕ
lengthened zero day J bytes = (J, bytes)
lengthened (suc n) day J bytes = option_map_or (λ (read : Line × List ℕ). lengthened n day (read.0 ∷ J) read.1) (next_stored day J bytes) (J, bytes)

-- The longest legal history whose lines stand stored in front, and the bytes after it. There are no more lines than bytes.
abbrev pub front : Day → List ℕ → History × List ℕ
front day bytes = lengthened (length bytes) day [] bytes

-- a byte other than 1 stands in front
abbrev pub is_closed : List ℕ → Bool
is_closed [] = false
is_closed (gate ∷ rest) = not (nat_eq gate 1)
