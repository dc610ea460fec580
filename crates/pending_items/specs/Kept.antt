-- What is kept of the pending items of a day, and for which lines.
use Rattle.std.specs.Prelude.{◌≡◌, ℕ, List, ◌∷◌, Option}
use Rattle.batch_records.specs.DayRecord.{Day}
use Rattle.commit_journal.specs.declared.line.Head.{Head}
use Rattle.commit_journal.specs.Line.{Line, History}
use Rattle.machine.specs.Legal.{IsLegal}
use Rattle.day_facts.specs.Facts.{Facts, StandsFor}
use Rattle.pending_items.specs.Concerned.{IsMetBy}
use Rattle.pending_items.specs.Cycles.{AreBatches, Batches}
use Rattle.pending_items.specs.Ends.{AreEnds}
use Rattle.pending_items.specs.Items.{KeepsRows, Lists, RenewsBy}

pub record KeptItems : Type 0 where
  -- the rows of the pending items
  pub rows : Lists
  -- by message: the first of its ends that the clock hasn't come to
  pub ends : List (Option ℕ)
  -- the batches of C whose cycle lasts
  pub batches : Batches
  -- for how many more messages there is room
  pub room : ℕ

pub record KeepsPending (day : Day) (J : History) (v : KeptItems) : Type 0 where
  pub rows : KeepsRows day J v.rows
  pub ends : AreEnds day J v.ends
  pub batches : AreBatches day J v.batches

-- ---- what one more line changes

-- by the facts of the line and those before it: the rows of all that the line concerns are right, the ends and batches are those after the
-- line, and there is room for as much as before
pub record IsRenewed (day : Day) (facts : Facts) (head : Head) (old new : KeptItems) : Type 0 where
  pub rows : RenewsBy day facts (IsMetBy day head old.ends old.batches) old.rows new.rows
  pub ends : (J : History) (l : Line) → l.head ≡ head → IsLegal day (l ∷ J) → AreEnds day J old.ends → AreEnds day (l ∷ J) new.ends
  pub batches : (J : History) → StandsFor day J facts → AreBatches day J old.batches → AreBatches day J new.batches
  pub room : new.room ≡ old.room
  pub blocks : (J : History) → StandsFor day J facts → new.batches.size ≡ old.batches.size
