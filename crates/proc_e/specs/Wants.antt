-- The wants that procedure E answers.
use Rattle.std.specs.Prelude.{◌≡◌, true}
use Rattle.batch_records.specs.DayRecord.{Day}
use Rattle.commit_journal.specs.declared.line.Want.{Want}
use Rattle.commit_journal.specs.declared.line.Want.TheVariants as wants
use Rattle.machine.specs.Records.Messages.{is_e, sort_of}

-- to book something of a batch of E, by whatever number, or to end the batch
abbrev pub IsWantOfE : Day → Want → Type 0
IsWantOfE day (wants.Book n k) = is_e (sort_of day n) ≡ true
IsWantOfE day (wants.Expire n) = is_e (sort_of day n) ≡ true
IsWantOfE day _ = ⊥
