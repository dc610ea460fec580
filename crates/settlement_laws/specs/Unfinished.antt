-- What it means that something of a message is unfinished: a want to book, to settle whole or to end that has a line.
use Rattle.std.specs.Prelude.{ℕ, ◌≡◌, Bool, true, false, Some, None, nat_lt, IsSome}
use Rattle.batch_records.specs.DayRecord.{Day}
use Rattle.commit_journal.specs.declared.line.Want.{Want}
use Rattle.commit_journal.specs.declared.line.Want.TheVariants as wants
use Rattle.commit_journal.specs.Line.{History}
use Rattle.machine.specs.Telling.History.{is_ended}
use Rattle.machine.specs.Making.Lines.{line_of}
use Rattle.machine.specs.Orders.Hints.{unfinished}
use Rattle.machine.specs.Making.Wants.{message_of}

-- a want to book, to settle whole or to end
abbrev pub is_progress : Want → Bool
is_progress (wants.Book n k) = true
is_progress (wants.All n) = true
is_progress (wants.Expire n) = true
is_progress _ = false

-- what is unfinished of message n is such a want of n, and has a line until the End line stands
abbrev pub UnfinishedHasALine : Day → History → Type 0
UnfinishedHasALine day J = (n : ℕ) (want : Want) → unfinished day J n ≡ Some want →
    (message_of want ≡ n) × (is_progress want ≡ true) × (is_ended J ≡ false → IsSome (line_of day J want))

-- the order of such wants of one message: to book, by entry, then to settle whole, then to end
abbrev pub comes_before : Want → Want → Bool
comes_before (wants.Book n i) (wants.Book m k) = nat_lt i k
comes_before (wants.Book n i) (wants.All m) = true
comes_before (wants.Book n i) (wants.Expire m) = true
comes_before (wants.All n) (wants.Expire m) = true
comes_before _ _ = false

-- no such want of n that comes before what is unfinished has a line
abbrev pub UnfinishedIsFirst : Day → History → Type 0
UnfinishedIsFirst day J = (n : ℕ) (want other : Want) → unfinished day J n ≡ Some want → message_of other ≡ n → comes_before other want ≡ true → line_of day J other ≡ None

-- where nothing is, no such want of n has a line
abbrev pub NothingUnfinished : Day → History → Type 0
NothingUnfinished day J = (n : ℕ) (want : Want) → unfinished day J n ≡ None → message_of want ≡ n → is_progress want ≡ true → line_of day J want ≡ None

-- want is the first of the wants to book, to settle whole or to end message n that have a line
abbrev pub IsFirstWithLine : Day → History → ℕ → Want → Type 0
IsFirstWithLine day J n want =
    (message_of want ≡ n) × (is_progress want ≡ true) × IsSome (line_of day J want)
    × ((other : Want) → message_of other ≡ n → comes_before other want ≡ true → line_of day J other ≡ None)

-- none of the wants to book, to settle whole or to end message n has a line
abbrev pub NoneHasALine : Day → History → ℕ → Type 0
NoneHasALine day J n = (want : Want) → message_of want ≡ n → is_progress want ≡ true → line_of day J want ≡ None

-- what is unfinished of message n is the first such want that has a line
abbrev pub UnfinishedIsFirstWithLine : Day → History → Type 0
UnfinishedIsFirstWithLine day J = (n : ℕ) (want : Want) → unfinished day J n ≡ Some want → IsFirstWithLine day J n want
