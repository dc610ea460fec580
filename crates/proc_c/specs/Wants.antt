-- The wants that procedure C answers.
use Rattle.std.specs.Prelude.{◌≡◌, true}
use Rattle.batch_records.specs.DayRecord.{Day}
use Rattle.commit_journal.specs.declared.line.Want.{Want}
use Rattle.commit_journal.specs.declared.line.Want.TheVariants as wants
use Rattle.machine.specs.Records.Messages.{sort_of, is_c}

-- to book an entry of a batch of C, by whatever number, or to end the batch
abbrev pub IsWantOfC : Day → Want → Type 0
IsWantOfC day (wants.Book n k) = is_c (sort_of day n) ≡ true
IsWantOfC day (wants.Expire n) = is_c (sort_of day n) ≡ true
IsWantOfC day _ = ⊥
