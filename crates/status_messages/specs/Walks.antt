-- What a walk keeps, and which lines it stands for.
use Rattle.std.specs.Prelude.{◌<◌, Bool, List, length}
use Rattle.batch_records.specs.DayRecord.{Day}
use Rattle.commit_journal.specs.Line.{History}
use Rattle.number_set.specs.Members.{IsEmpty}
use Rattle.day_facts.specs.Facts.{Facts, StandsFor}

pub record Walk : Type 0 where
  pub facts : Facts
  -- by the number of an account, whether it is the first cash account of a bank that is about to be told something
  pub banks : List Bool

-- the facts are what these lines, which are legal, tell of the day, and no bank is about to be told; there is room for each of its accounts
pub record Stands (day : Day) (J : History) (walk : Walk) : Type 0 where
  pub facts : StandsFor day J walk.facts
  pub banks : IsEmpty walk.banks
  pub accounts : length day.accounts < length walk.banks
