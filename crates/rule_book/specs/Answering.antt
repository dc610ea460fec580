-- What a procedure answers on a want: the line that the machine makes, or why there is none.
use Rattle.std.specs.Prelude.{ℕ, ◌≡◌, ◌+◌, Bool, Some, Result, MatchResult, length}
use Rattle.std.specs.List.{list_all}
use Rattle.batch_records.specs.DayRecord.{Day}
use Rattle.commit_journal.specs.declared.line.Head.{Head}
use Rattle.commit_journal.specs.declared.line.Want.{Want}
use Rattle.commit_journal.specs.Kept.{MovesInRoom}
use Rattle.commit_journal.specs.Line.{History}
use Rattle.machine.specs.declared.answers.Why.{Why}
use Rattle.machine.specs.Making.Accounts.{accounts_of_want}
use Rattle.machine.specs.Making.Lines.{line_of}
use Rattle.machine.specs.Making.Reasons.{why_of}

-- the balances of all accounts that the want's line may touch are at hand
abbrev pub has_accounts : (ℕ → Bool) → Day → Want → Bool
has_accounts held day want = list_all held (accounts_of_want day want)

-- the list of moves is another list in the same room
abbrev pub HasMoves : MovesInRoom → MovesInRoom → Type 0
HasMoves old new = new.room + length new.moves ≡ old.room + length old.moves

-- The head is that of the want's line after the history, and the list has its moves; or the want has no line for this
-- reason, and the list is as before.
abbrev pub IsAnswer : Day → History → Want → MovesInRoom → MovesInRoom → Result Head Why → Type 0
IsAnswer day J want old new result = MatchResult result
    (λ head. (line_of day J want ≡ Some (record { head = head; moves = new.moves })) × HasMoves old new)
    (λ why. (why_of day J want ≡ Some why) × (new ≡ old))
