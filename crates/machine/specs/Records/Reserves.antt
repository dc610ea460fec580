-- What dedicated cash accounts keep, and what an item must leave on its debit account.
use Rattle.std.specs.Prelude.{ℕ, ◌+◌, Bool, true, false, find, List, Option, map, nat_eq}
use Rattle.std.specs.Option.{option_map_or}
use Rattle.batch_records.specs.DayRecord.{Day}
use Rattle.batch_records.specs.declared.day.Reserve.{Reserve}
use Rattle.machine.specs.Records.Messages.{Sort, Pay, is_high, sort_of}
use Rattle.machine.specs.Records.Setup.{account_numbers}

-- what the day says of account a
abbrev pub reserve_of : Day → ℕ → Option Reserve
reserve_of day a = find (λ x. nat_eq x.account a) day.reserves

-- what it keeps for urgent items, and for high payments; 0 where the day says nothing of it
abbrev pub kept_urgent : Day → ℕ → ℕ
kept_urgent day a = option_map_or (λ x. x.urgent) (reserve_of day a) 0

abbrev pub kept_high : Day → ℕ → ℕ
kept_high day a = option_map_or (λ x. x.high) (reserve_of day a) 0

-- what a payment must leave on it: a high one what is kept for urgent items, a normal one both
abbrev pub kept : Day → ℕ → Bool → ℕ
kept day a true = kept_urgent day a
kept day a false = kept_urgent day a + kept_high day a

-- of each account both amounts
abbrev pub kept_of : Day → List (ℕ × ℕ)
kept_of day = map (λ a. (kept_urgent day a, kept_high day a)) (account_numbers day)

-- what an item of message n must leave on account a, from which it is paid: a payment what is kept from its priority, every other
-- item nothing
abbrev pub must_leave_as : Sort → Day → ℕ → ℕ → ℕ
must_leave_as Pay day n a = kept day a (is_high day n)
must_leave_as _ day n a = 0

abbrev pub must_leave : Day → ℕ → ℕ → ℕ
must_leave day n a = must_leave_as (sort_of day n) day n a
