-- The wants of which procedure A is asked.
use Rattle.std.specs.Prelude.{◌≡◌, true}
use Rattle.batch_records.specs.DayRecord.{Day}
use Rattle.commit_journal.specs.declared.line.Want.{Want}
use Rattle.commit_journal.specs.declared.line.Want.TheVariants as wants
use Rattle.machine.specs.Records.Messages.{sort_of, is_a}

-- to book an entry of a batch of A, whatever its number, or to let the batch expire
abbrev pub IsWantOfA : Day → Want → Type 0
IsWantOfA day (wants.Book n k) = is_a (sort_of day n) ≡ true
IsWantOfA day (wants.Expire n) = is_a (sort_of day n) ≡ true
IsWantOfA day _ = ⊥
