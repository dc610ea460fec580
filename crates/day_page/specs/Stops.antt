-- The stops of the clock at which a page looks at a journal.
use Rattle.std.specs.Prelude.{ℕ, ◌/◌, Bool, ◌&&◌, if◌then◌else◌, List, [], ◌∷◌, ◌++◌, nat_lt}
use Rattle.commit_journal.specs.declared.line.Head.{Head}
use Rattle.commit_journal.specs.Line.{History}
use Rattle.machine.specs.Telling.History.{clock, is_time}

-- The clock leaves the five minutes in which it stands. So of stops within five minutes the last is looked at, and there are
-- never more than 289.
abbrev pub leaves_slot : ℕ → Head → Bool
leaves_slot now head = is_time head.kind && nat_lt (now / 300) (head.entry / 300)

-- the beginnings of a journal at whose end the clock left its five minutes, the oldest first
unfoldable pub earlier_stops : History → List History
earlier_stops [] = []
earlier_stops (l ∷ J) = earlier_stops J ++ (if leaves_slot (clock J) l.head then J ∷ [] else [])

-- these and the journal itself, which is the last of them
abbrev pub stops : History → List History
stops J = earlier_stops J ++ J ∷ []
