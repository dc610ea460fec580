-- The output of a day and a journal: the lines, what they tell the parties, what each account holds, and how many lines
-- there are.
use Rattle.std.specs.Prelude.{ℕ, List}
use Rattle.batch_records.specs.DayRecord.{Day}
use Rattle.commit_journal.specs.Line.{History}
use Rattle.as_client.specs.TextViews.{told_output}

unfoldable pub output : Day → History → List ℕ
output day J = told_output day J
