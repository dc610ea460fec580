-- What the fund pays for an entry, by the entry's move.
use Rattle.std.specs.Prelude.{ℕ, if◌then◌else◌}
use Rattle.batch_records.specs.DayRecord.{Day}
use Rattle.commit_journal.specs.declared.line.Move.{Move}
use Rattle.commit_journal.specs.Line.{History}
use Rattle.machine.specs.Records.Messages.{fund_account, technical_account}
use Rattle.machine.specs.Making.Lines.{is_short_debtor}

-- from the fund to the technical account, in place of the debit account
abbrev pub cover_by : Day → ℕ → Move → Move
cover_by day n m = record { debit = fund_account day n; credit = technical_account day n; amount = m.amount }

-- where the debit account is short, and else what the entry moves
abbrev pub covered_by : Day → History → ℕ → Move → Move
covered_by day J n m = if is_short_debtor day J n m.debit then cover_by day n m else m
