-- The batch of a system and an identification.
use Rattle.std.specs.Prelude.{ℕ, List, Option}
use Rattle.std.specs.List.{find}
use Rattle.batch_records.specs.DayRecord.{Day}
use Rattle.machine.specs.Records.Messages.{message_numbers, names_batch}

-- the batch that an objection or an answer names
abbrev pub named : Day → List ℕ → List ℕ → Option ℕ
named day system id = find (names_batch day system id) (message_numbers day)
