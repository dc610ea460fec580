-- What a settled day leaves to the next one.
use Rattle.std.specs.Prelude.{ℕ, Bool, if◌then◌else◌}
use Rattle.batch_records.specs.DayRecord.{Day}
use Rattle.machine.specs.Words.{is_technical, some_passes}
use Rattle.machine.specs.Records.Setup.{account_at}
use Rattle.machine.specs.Telling.Balances.{balance}
use Rattle.machine.specs.Orders.Order.{plain}

-- what the account holds at the end of the day, in cents
abbrev pub closing : Day → ℕ → ℕ
closing day a = balance day (plain day) a

abbrev pub is_technical_account : Day → ℕ → Bool
is_technical_account day a = some_passes (λ r. is_technical r.kind) (account_at day a)

-- what a technical account holds then is set aside for its system
abbrev pub set_aside : Day → ℕ → ℕ
set_aside day a = if is_technical_account day a then closing day a else 0

-- with what the account opens the next day
abbrev pub carried : Day → ℕ → ℕ
carried day a = if is_technical_account day a then 0 else closing day a
