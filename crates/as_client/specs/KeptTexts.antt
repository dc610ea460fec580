-- The report of a party from what is kept.
use Rattle.std.specs.Prelude.{ℕ, List, [], ◌++◌}
use Rattle.std.specs.List.{flat_map}
use Rattle.std.specs.Option.{option_map_or}
use Rattle.batch_records.specs.DayRecord.{Day}
use Rattle.machine.specs.Records.Setup.{account_at, account_numbers}
use Rattle.machine.specs.Records.Messages.{message_at, message_numbers}
use Rattle.as_client.specs.Reports.{balance_line, count_text, word_line}
use Rattle.as_client.specs.Knowing.{Known, balance_kept, word_kept}

-- the line of account a, and that of message n, where they are the party's
abbrev pub holding_kept : Day → Known → ℕ → List ℕ
holding_kept day view a = option_map_or (λ r. option_map_or (balance_line r.name) (balance_kept view r.name) []) (account_at day a) []

abbrev pub message_kept : Day → Known → ℕ → List ℕ
message_kept day view n = option_map_or (λ m. option_map_or (word_line n m.id) (word_kept view n) []) (message_at day n) []

abbrev pub holdings_kept : Day → Known → List ℕ
holdings_kept day view = flat_map (holding_kept day view) (account_numbers day)

abbrev pub messages_kept : Day → Known → List ℕ
messages_kept day view = flat_map (message_kept day view) (message_numbers day)

abbrev pub report_kept : Day → Known → ℕ → List ℕ
report_kept day view count = holdings_kept day view ++ (messages_kept day view ++ count_text count)
