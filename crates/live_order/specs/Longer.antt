-- A day that goes on: further messages and stops stand after its own.
use Rattle.std.specs.Prelude.{ℕ, ◌≡◌, ◌≤◌, ◌<◌, true, List, [], ◌∷◌, ◌++◌, nat_le, length}
use Rattle.std.specs.List.{list_all}
use Rattle.batch_records.specs.Sound.{stops_rise}
use Rattle.batch_records.specs.DayRecord.{Day}
use Rattle.batch_records.specs.declared.day.Message.{Message}
use Rattle.commit_journal.specs.declared.line.Want.{Want}
use Rattle.commit_journal.specs.declared.line.Want.TheVariants as wants
use Rattle.commit_journal.specs.Line.{History}
use Rattle.machine.specs.Telling.History.{is_time}
use Rattle.machine.specs.Telling.Facts.{round}

-- the day with these after its messages and stops
abbrev pub longer : Day → List Message → List ℕ → Day
longer day messages stops = record day { messages = day.messages ++ messages; stops = day.stops ++ stops }

-- the stops rise, the day's own messages stand after no more stops than it has, and the further ones after no fewer
pub record GoesOn (day : Day) (messages : List Message) (stops : List ℕ) : Type 0 where
  pub rise : stops_rise 0 (day.stops ++ stops) ≡ true
  pub own : list_all (λ m. nat_le m.round (length day.stops)) day.messages ≡ true
  pub later : list_all (λ m. nat_le (length day.stops) m.round) messages ≡ true

-- each line is of one of the first k messages, or of none
abbrev pub SpeaksOf : ℕ → History → Type 0
SpeaksOf k [] = Unit {0}
SpeaksOf k (l ∷ J) = SpeaksOf k J × (l.head.msg ≤ k)

-- a want that the day as far as it goes decides: it is of one of the day's messages or of none, and time passes where the clock has not
-- come to the last of the day's stops
abbrev pub IsWithin : Day → History → Want → Type 0
IsWithin day J (wants.In n) = n ≤ length day.messages
IsWithin day J (wants.Book n k) = n ≤ length day.messages
IsWithin day J (wants.All n) = n ≤ length day.messages
IsWithin day J wants.Time = round day J < length day.stops
IsWithin day J (wants.Expire n) = n ≤ length day.messages
IsWithin day J (wants.Ask n) = n ≤ length day.messages
IsWithin day J (wants.Cover n) = n ≤ length day.messages
IsWithin day J (wants.Refuse n) = n ≤ length day.messages
IsWithin day J (wants.Sweep a) = Unit {0}
IsWithin day J wants.End = Unit {0}

-- no time passes from the last of the day's stops on
abbrev pub PassesWithin : Day → History → Type 0
PassesWithin day [] = Unit {0}
PassesWithin day (l ∷ J) = PassesWithin day J × (is_time l.head.kind ≡ true → round day J < length day.stops)
