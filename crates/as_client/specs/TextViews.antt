-- What a party makes of lines of text, as statements.
use Rattle.std.specs.Prelude.{ℕ, List, ◌++◌, length}
use Rattle.std.specs.List.{flat_map}
use Rattle.batch_records.specs.DayRecord.{Day}
use Rattle.commit_journal.specs.Line.{History}
use Rattle.commit_journal.specs.Text.{journal_text}
use Rattle.machine.specs.Records.Setup.{account_numbers}
use Rattle.machine.specs.Telling.Balances.{balance}
use Rattle.status_messages.specs.Telling.{statuses_text}
use Rattle.as_client.specs.Reports.{count_text, holding_text}

-- ---- texts

-- the lines of a journal, its statuses, what each account holds, and how many lines there are
abbrev pub told_output : Day → History → List ℕ
told_output day J = journal_text J ++ (statuses_text day J ++ (flat_map (λ a. holding_text day a (balance day J a)) (account_numbers day) ++ count_text (length J)))
