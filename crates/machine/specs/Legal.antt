-- Which histories the machine makes.
use Rattle.std.specs.Prelude.{ℕ, ◌≡◌, List, [], ◌∷◌, Bool, false, Some, flat_map, reverse}
use Rattle.batch_records.specs.DayRecord.{Day}
use Rattle.commit_journal.specs.declared.line.Move.{Move}
use Rattle.commit_journal.specs.declared.line.Kind.{Kind}
use Rattle.commit_journal.specs.declared.line.Kind.TheVariants as kinds
use Rattle.commit_journal.specs.declared.line.Want.{Want}
use Rattle.commit_journal.specs.declared.line.Want.TheVariants as wants
use Rattle.commit_journal.specs.Line.{Line, History}
use Rattle.machine.specs.Telling.History.{is_end}
use Rattle.machine.specs.Making.Lines.{line_of}

abbrev pub want_as : Kind → ℕ → ℕ → Want
want_as kinds.In msg entry = wants.In msg
want_as kinds.Book msg entry = wants.Book msg entry
want_as kinds.All msg entry = wants.All msg
want_as kinds.Time msg entry = wants.Time
want_as kinds.Expire msg entry = wants.Expire msg
want_as kinds.Ask msg entry = wants.Ask msg
want_as kinds.Cover msg entry = wants.Cover msg
want_as kinds.Refuse msg entry = wants.Refuse msg
want_as kinds.Sweep msg entry = wants.Sweep entry
want_as kinds.End msg entry = wants.End

-- the want that a line answers
abbrev pub want_of : Line → Want
want_of l = want_as l.head.kind l.head.msg l.head.entry

-- each line is the one that the machine makes after the lines before it
abbrev pub IsLegal : Day → History → Type 0
IsLegal day [] = Unit {0}
IsLegal day (l ∷ J) = IsLegal day J × (line_of day J (want_of l) ≡ Some l)

-- the newest line is the End line
abbrev pub is_complete : History → Bool
is_complete [] = false
is_complete (l ∷ J) = is_end l.head.kind

-- the moves of lines in the order in which they were made
abbrev pub moves_in_order : History → List Move
moves_in_order later = flat_map (λ l. l.moves) (reverse later)
