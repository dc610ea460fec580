-- What the floor answers.
use Rattle.std.specs.Prelude.{ℕ, ◌≡◌, ◌≤◌, ◌+◌, ◌*◌, ◌-◌, ◌∷◌, min, Bool, true, List, None, Some, Option, Result, MatchResult, length, is_some}
use Rattle.std.specs.List.{list_all}
use Rattle.batch_records.specs.DayRecord.{Day}
use Rattle.commit_journal.specs.declared.line.Want.{Want}
use Rattle.commit_journal.specs.Kept.{Kept}
use Rattle.commit_journal.specs.Line.{History, Line}
use Rattle.machine.specs.declared.answers.Why.{Why}
use Rattle.machine.specs.Legal.{IsLegal}
use Rattle.machine.specs.Making.Lines.{line_of}
use Rattle.settlement_laws.specs.Fits.{Fits}
use Rattle.machine.specs.Making.Reasons.{why_of}
use Rattle.machine.specs.Records.Setup.{account_numbers}
use Rattle.day_facts.specs.Facts.{Facts, StandsFor}
use Rattle.pending_items.specs.Kept.{KeepsPending, KeptItems}
use Rattle.due_items.specs.Kept.{Due, KeepsDue}
use Rattle.ready_items.specs.Kept.{KeepsReady, Ready}
use Rattle.day_facts.specs.Room as of_facts
use Rattle.pending_items.specs.Room as of_pending
use Rattle.due_items.specs.Room as of_due
use Rattle.ready_items.specs.Room as of_ready
use Rattle.machine.specs.Orders.Bounds.{entries_of_all, most_lines, most_moves, moved}
use Rattle.cash_amounts.specs.declared.limits.TheConstants.{MAX_ENTRIES_OF_DAY, MAX_MESSAGES}
use Rattle.clock_stops.specs.Kept.{KeepsStops}
use Rattle.settle_floor.specs.Carrying.{after}
use Rattle.settle_floor.specs.Tills.{KeepsBalances}

-- What is kept of the lines of a journal, so that nothing is looked for in them: their facts, the pending items on their accounts,
-- the items that are due, a few that show what is ready, and by second whether the clock may stop there.
pub record Index : Type 0 where
  pub facts : Facts
  pub pending : KeptItems
  pub due : Due
  pub ready : Ready
  pub stops : List Bool

-- the index is what these lines tell of the day
pub record IsIndex (day : Day) (past : History) (index : Index) : Type 0 where
  pub stands : StandsFor day past index.facts
  pub queued : KeepsPending day past index.pending
  pub due : KeepsDue day past index.due
  pub ready : KeepsReady day past index.ready
  pub stops : KeepsStops day past index.stops

-- the index can take so many more messages, with so many entries in all
pub record HasPlaces (messages more : ℕ) (index : Index) : Type 0 where
  pub facts : of_facts.HasRoom messages more index.facts
  pub pending : of_pending.HasRoom messages more index.pending
  pub due : of_due.HasRoom messages more index.due
  pub ready : of_ready.HasRoom messages more index.ready

-- What contracts see of a floor: the lines of its journal with the room that is left in it, and the index of them.
pub record OnFloor : Type 0 where
  pub journal : Kept
  pub index : Index

-- the same but for what is ready
abbrev pub with_ready : OnFloor → Ready → OnFloor
with_ready floor ready = record {
  journal = floor.journal;
  index = record { facts = floor.index.facts; pending = floor.index.pending; due = floor.index.due; ready = ready; stops = floor.index.stops };
}

-- There is room for what a day can bring that has so many more messages than this one, with so many entries in all.
pub record HasRoomFor (day : Day) (messages more : ℕ) (floor : OnFloor) : Type 0 where
  pub places : HasPlaces messages more floor.index
  pub lines : most_lines day + (4 * messages + more) ≤ length floor.journal.history + floor.journal.room_for_lines
  pub moves : most_moves day + (messages + 2 * more) ≤ moved floor.journal.history + floor.journal.room_for_moves

-- how many more messages, and entries of them in all, the day may get: within its room, and within the limits
abbrev pub messages_left : Day → ℕ
messages_left day = min day.room.messages MAX_MESSAGES - length day.messages

abbrev pub entries_left : Day → ℕ
entries_left day = min day.room.entries MAX_ENTRIES_OF_DAY - entries_of_all day

-- The floor was opened for this day: its lines are legal for the day, there is room for the rest of it and for all that may come
-- after it within the day's own room, and the index is what these lines tell of the day.
pub record IsFor (day : Day) (floor : OnFloor) : Type 0 where
  pub fits : Fits day floor.journal
  pub index : IsIndex day floor.journal.history floor.index
  pub room : HasRoomFor day (messages_left day) (entries_left day) floor

-- what is kept of the ready items is that of the lines, and has the room that it had
pub record IsReadyStill (day : Day) (past : History) (old new : Ready) : Type 0 where
  pub keeps : KeepsReady day past new
  pub room : (messages more : ℕ) → of_ready.HasRoom messages more old → of_ready.HasRoom messages more new

-- The place is that of the want's line, which is now the newest; or this is the first reason why the want has no line, the floor
-- is as before, and the machine makes no line for the want.
abbrev pub IsEntered : Day → OnFloor → OnFloor → Want → Result ℕ Why → Type 0
IsEntered day old new want result = MatchResult result
    (λ place. (l : Line) × (line_of day old.journal.history want ≡ Some l) × (new.journal.history ≡ l ∷ old.journal.history) × (place ≡ length new.journal.history))
    (λ why. (why_of day old.journal.history want ≡ Some why) × (new ≡ old) × (line_of day old.journal.history want ≡ None))

-- the same, and what is held has the line's moves; or is as before
abbrev pub IsAnswered : Day → OnFloor → OnFloor → Want → (ℕ → Option ℕ) → (ℕ → Option ℕ) → Result ℕ Why → Type 0
IsAnswered day old new want holdings later result = MatchResult result
    (λ place. (l : Line) × (line_of day old.journal.history want ≡ Some l) × (new.journal.history ≡ l ∷ old.journal.history) × (place ≡ length new.journal.history) × (later ≡ after holdings l.moves))
    (λ why. (why_of day old.journal.history want ≡ Some why) × (new ≡ old) × (later ≡ holdings) × (line_of day old.journal.history want ≡ None))

-- the same accounts are at hand
abbrev pub HasSame : (ℕ → Option ℕ) → (ℕ → Option ℕ) → Type 0
HasSame holdings later = (a : ℕ) → is_some (later a) ≡ is_some (holdings a)

-- all accounts of the day are at hand
abbrev pub has_all : (ℕ → Option ℕ) → Day → Bool
has_all holdings day = list_all (λ a. is_some (holdings a)) (account_numbers day)

-- the floor was opened for the day, and the till has each account's balance over its journal
pub record AtWork (day : Day) (floor : OnFloor) (holdings : ℕ → Option ℕ) : Type 0 where
  pub opened : IsFor day floor
  pub kept : KeepsBalances holdings day floor.journal.history
  pub all : has_all holdings day ≡ true

-- the journal that a floor leaves is legal, and the till has each account's balance over it
pub record IsBalanced (day : Day) (journal : Kept) (holdings : ℕ → Option ℕ) : Type 0 where
  pub legal : IsLegal day journal.history
  pub kept : KeepsBalances holdings day journal.history
  pub all : has_all holdings day ≡ true
