-- What a step takes and tells.
use Rattle.std.specs.Prelude.{◌≡◌, ℕ, ◌<◌, Bool, true, false, ◌∷◌, length, IsSome, Some, None, List}
use Rattle.batch_records.specs.DayRecord.{Day}
use Rattle.commit_journal.specs.declared.line.Move.{Move}
use Rattle.commit_journal.specs.declared.line.Want.{Want}
use Rattle.commit_journal.specs.declared.line.Want.TheVariants as wants
use Rattle.commit_journal.specs.Line.{History}
use Rattle.commit_journal.specs.Histories.{Begins}
use Rattle.machine.specs.Making.Lines.{line_of}
use Rattle.machine.specs.Records.Messages.{sender}
use Rattle.machine.specs.Telling.History.{taken}
use Rattle.machine.specs.Words.{same_name}
use Rattle.machine.specs.Making.Reasons.{why_of}
use Rattle.lock_book.specs.declared.counted.Stepped.{Stepped}
use Rattle.lock_book.specs.declared.counted.Stepped.TheVariants.{Made, NotNow}

-- whether the want moves the clock or ends the day
abbrev pub moves_time : Want → Bool
moves_time wants.Time = true
moves_time wants.End = true
moves_time _ = false

-- Of a want, what had been seen before, and what is seen afterwards. Made: the newest line is that of the want over the lines
-- before it, to which all belongs that had been seen. Not now: the want has no line, for this reason.
abbrev pub Tells : Day → Want → History → History → Stepped → Type 0
Tells day want P K (Made place head) =
    (J : History) × (moves : List Move) × Begins P J × (K ≡ record { head = head; moves = moves } ∷ J) × (line_of day J want ≡ Some (record { head = head; moves = moves })) × (place ≡ length K)
Tells day want P K (NotNow seen why) = (seen ≡ length K) × (line_of day K want ≡ None) × (why_of day K want ≡ Some why)

-- Of a want, the lines before and afterwards. Made: one line was added, which is that of the want over the lines before and has
-- this head. Not now: none was added.
abbrev pub Adds : Day → Want → History → History → Stepped → Type 0
Adds day want J K (Made place head) =
    (moves : List Move) × (K ≡ record { head = head; moves = moves } ∷ J) × (line_of day J want ≡ Some (record { head = head; moves = moves }))
Adds day want J K (NotNow seen why) = K ≡ J

-- where a message is wanted to be taken, each earlier one of its sender is, in what had been seen
abbrev pub IsNextFor : Day → History → Want → Type 0
IsNextFor day P (wants.In n) = (i : ℕ) → 0 < i → i < n → same_name (sender day i) (sender day n) ≡ true → IsSome (taken P i)
IsNextFor day P _ = Unit {0}
