-- Lines and moves that are the same.
use Rattle.std.specs.Prelude.{Bool, ◌≡◌, ◌&&◌, List, Some, nat_eq}
use Rattle.batch_records.specs.DayRecord.{Day}
use Rattle.commit_journal.specs.declared.line.Head.{Head}
use Rattle.commit_journal.specs.declared.line.Move.{Move}
use Rattle.commit_journal.specs.Line.{Line, History}
use Rattle.machine.specs.Making.Lines.{line_of}
use Rattle.machine.specs.Legal.{want_of}

abbrev pub line_with : Head → List Move → Line
line_with head moves = record { head = head; moves = moves }

-- the line is the one that the machine makes after the history for its want
abbrev pub IsMachines : Day → History → Line → Type 0
IsMachines day J l = line_of day J (want_of l) ≡ Some l

abbrev pub is_same_move : Move → Move → Bool
is_same_move one other = nat_eq one.debit other.debit && nat_eq one.credit other.credit && nat_eq one.amount other.amount
