-- How an answer that depends on the journal that was made is given, for contracts.
use Rattle.std.specs.Prelude.{ℕ, ◌≡◌}
use Rattle.outside_io.specs.Pieces.{SinkState}
use Rattle.batch_records.specs.DayRecord.{Day}
use Rattle.commit_journal.specs.Line.{History}
use Rattle.program_answers.specs.Answers.{Answer, done}
use Rattle.program_answers.specs.Giving.{SaysIfRoom}
use Rattle.rtgs_engine.specs.Outputs.{output}

abbrev pub settled : Day → History → Answer
settled day journal = done (output day journal)

-- The answer is given that is defined for a journal that was made of the day, whichever it is; or a request for memory was refused, and the
-- sink is left as it is.
pub record SaysOfMade {S : Type 0} (state : S → SinkState) (old new : S) (IsMade : History → Type 0) (answer : History → Answer) (status : ℕ) : Type 0 where
  pub journal : History
  pub made : (status ≡ 1 → ⊥) → IsMade journal
  pub said : SaysIfRoom state old new (answer journal) status
