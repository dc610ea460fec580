-- Lines whose numbers a line in hand can have.
use Rattle.std.specs.Prelude.{◌<◌, ◌^◌, List, [], ◌∷◌, length}
use Rattle.commit_journal.specs.declared.line.Move.{Move}
use Rattle.commit_journal.specs.Line.{Line, History}

-- Each number is below 2 ^ 64, as those of every move and line in hand are.
pub record IsTypedMove (m : Move) : Type 0 where
  pub debit : m.debit < 2 ^ 64
  pub credit : m.credit < 2 ^ 64
  pub amount : m.amount < 2 ^ 64

abbrev pub AreTypedMoves : List Move → Type 0
AreTypedMoves [] = Unit {0}
AreTypedMoves (m ∷ moves) = IsTypedMove m × AreTypedMoves moves

pub record IsTypedLine (l : Line) : Type 0 where
  pub msg : l.head.msg < 2 ^ 64
  pub entry : l.head.entry < 2 ^ 64
  pub count : length l.moves < 2 ^ 64
  pub moves : AreTypedMoves l.moves

abbrev pub AreTyped : History → Type 0
AreTyped [] = Unit {0}
AreTyped (l ∷ J) = IsTypedLine l × AreTyped J
