-- What waits on an account, by the numbers of the items.
use Rattle.std.specs.Prelude.{ℕ, Bool}
use Rattle.batch_records.specs.DayRecord.{Day}
use Rattle.commit_journal.specs.Line.{History}
use Rattle.scan_laws.specs.Numbers.{item_of}
use Rattle.scan_laws.specs.Touched.{waits_on}

-- the item of number i waits on account a
abbrev pub waits_at : Day → History → ℕ → ℕ → Bool
waits_at day J a i = waits_on day J a (item_of day i).msg (item_of day i).entry
