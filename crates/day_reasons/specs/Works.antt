-- What is kept while the lines of a journal are followed.
use Rattle.std.specs.Prelude.{ℕ, ◌≡◌, ◌∷◌, List, length}
use Rattle.cash_amounts.specs.Numbers.{numbered}
use Rattle.batch_records.specs.DayRecord.{Day}
use Rattle.commit_journal.specs.Line.{History, Line}
use Rattle.day_facts.specs.Facts.{StandsFor}
use Rattle.pending_items.specs.Kept.{KeepsPending}
use Rattle.settle_floor.specs.Floors.{AtWork}
use Rattle.journal_replay.specs.Verdicts.{followed, longest}
use Rattle.day_reasons.specs.declared.work.Work.{Work}
use Rattle.day_reasons.specs.Desks.{clear}

abbrev pub lines_of : Work → History
lines_of work = work.floor.journal.history

-- all of it is that of the lines of the floor, which are legal for the day
pub record IsWork (day : Day) (work : Work) : Type 0 where
  pub at_work : AtWork day work.floor (numbered work.till)
  pub moves : work.moves ≡ clear
  pub facts : StandsFor day (lines_of work) work.facts
  pub pending : KeepsPending day (lines_of work) work.pending

-- what the lines tell and leave pending is noted of all but the newest
pub record IsBefore (day : Day) (work : Work) : Type 0 where
  pub newest : Line
  pub older : History
  pub lines : lines_of work ≡ newest ∷ older
  pub facts : StandsFor day older work.facts
  pub pending : KeepsPending day older work.pending

-- and these lines are the first ones of the longest legal journal with whose text this text begins, of which so much is left
pub record IsAlong (day : Day) (text : List ℕ) (at : Work) (left : List ℕ) : Type 0 where
  pub work : IsWork day at
  pub same : followed (length left) day (lines_of at) left ≡ longest day text
