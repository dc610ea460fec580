-- What is told at the end of a day, after its lines.
use Rattle.std.specs.Prelude.{ℕ, List, ◌++◌, length}
use Rattle.std.specs.List.{flat_map}
use Rattle.batch_records.specs.DayRecord.{Day}
use Rattle.commit_journal.specs.Line.{History}
use Rattle.machine.specs.Records.Setup.{account_numbers}
use Rattle.machine.specs.Telling.Balances.{balance}
use Rattle.program_answers.specs.Answers.{ok_text}
use Rattle.as_client.specs.Reports.{holding_text}

-- what account a holds after a journal
abbrev pub balance_text : Day → History → ℕ → List ℕ
balance_text day J a = holding_text day a (balance day J a)

-- the accounts in file order
abbrev pub balances_text : Day → History → List ℕ
balances_text day J = flat_map (balance_text day J) (account_numbers day)

-- and how many lines there are
abbrev pub closing_text : Day → History → List ℕ
closing_text day J = balances_text day J ++ ok_text (length J)
