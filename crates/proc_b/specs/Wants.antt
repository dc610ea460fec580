-- The wants that procedure B answers.
use Rattle.std.specs.Prelude.{◌≡◌, true}
use Rattle.batch_records.specs.DayRecord.{Day}
use Rattle.commit_journal.specs.declared.line.Want.{Want}
use Rattle.commit_journal.specs.declared.line.Want.TheVariants as wants
use Rattle.machine.specs.Records.Messages.{sort_of, is_b}

-- to book a batch of B as a whole, or to end it
abbrev pub IsWantOfB : Day → Want → Type 0
IsWantOfB day (wants.All n) = is_b (sort_of day n) ≡ true
IsWantOfB day (wants.Expire n) = is_b (sort_of day n) ≡ true
IsWantOfB day _ = ⊥
