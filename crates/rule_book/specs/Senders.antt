-- The accounts of the senders of messages, in a list that grows within room.
use Rattle.std.specs.Prelude.{ℕ, ◌≡◌, ◌≤◌, ◌<◌, true, false, Option, None, Some, List, [], ◌∷◌, ◌++◌}
use Rattle.cash_amounts.specs.Tests.{same_name}
use Rattle.batch_records.specs.DayRecord.{Day}
use Rattle.machine.specs.Records.Messages.{sender}
use Rattle.rule_book.specs.declared.system_accounts.SystemAccounts.{SystemAccounts}

-- those of some messages, one after another, and of how many there can be
pub record Senders : Type 0 where
  pub accounts : List SystemAccounts
  pub most : ℕ

-- one message more
abbrev pub with_sender : SystemAccounts → Senders → Senders
with_sender accounts senders = record { accounts = senders.accounts ++ accounts ∷ []; most = senders.most }

-- ---- the messages of one sender

-- of the messages before message n the last that its sender sent; none exactly where it sent none of them
abbrev pub IsSentBefore : Day → ℕ → Option ℕ → Type 0
IsSentBefore day n None = (i : ℕ) → 1 ≤ i → i < n → same_name (sender day i) (sender day n) ≡ false
IsSentBefore day n (Some m) = (1 ≤ m) × (m < n) × (same_name (sender day m) (sender day n) ≡ true) × ((i : ℕ) → m < i → i < n → same_name (sender day i) (sender day n) ≡ false)
