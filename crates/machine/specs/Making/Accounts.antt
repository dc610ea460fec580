-- The accounts that the line of a want may touch.
use Rattle.std.specs.Prelude.{ℕ, List, [], ◌∷◌, ◌++◌, Option, Some, None, flat_map, option_to_list, if◌then◌else◌}
use Rattle.batch_records.specs.DayRecord.{Day}
use Rattle.batch_records.specs.declared.day.Entry.{Entry}
use Rattle.commit_journal.specs.declared.line.Want.{Want}
use Rattle.commit_journal.specs.declared.line.Want.TheVariants as wants
use Rattle.machine.specs.Records.Setup.{account_named, account_numbers, first_dca, owner, is_sub_account}
use Rattle.machine.specs.Records.Messages.{Sort, Pay, BatchD, Liquidity, sort_of, is_batch, entries, part, transfer, fund_of}

-- an entry's accounts, without a name that is no account's
abbrev pub accounts_of : Day → Entry → List ℕ
accounts_of day e = option_to_list (account_named day e.debit) ++ option_to_list (account_named day e.credit)

abbrev pub accounts_of_part : Day → Option Entry → List ℕ
accounts_of_part day None = []
accounts_of_part day (Some e) = accounts_of day e

-- the transfer of a payment
abbrev pub payment_of : Sort → Day → ℕ → Option Entry
payment_of Pay day n = transfer day n
payment_of _ day n = None

-- of a payment its accounts, of a batch those of its entries and the fund
abbrev pub accounts_of_message : Day → ℕ → List ℕ
accounts_of_message day n =
    flat_map (accounts_of day) (entries day n) ++ accounts_of_part day (payment_of (sort_of day n) day n)
    ++ (if is_batch (sort_of day n) then option_to_list (fund_of day n) else [])

abbrev pub accounts_taken : Sort → Day → ℕ → List ℕ
accounts_taken Liquidity day n = accounts_of_part day (transfer day n)
accounts_taken BatchD day n = flat_map (accounts_of day) (entries day n)
accounts_taken _ day n = []

abbrev pub accounts_of_want : Day → Want → List ℕ
accounts_of_want day (wants.In n) = accounts_taken (sort_of day n) day n
accounts_of_want day (wants.Book n k) = accounts_of_part day (part day n k)
accounts_of_want day (wants.All n) = accounts_of_message day n
accounts_of_want day wants.Time = account_numbers day
accounts_of_want day (wants.Expire n) = accounts_of_message day n
accounts_of_want day (wants.Ask n) = []
accounts_of_want day (wants.Cover n) = accounts_of_message day n
accounts_of_want day (wants.Refuse n) = accounts_of_message day n
accounts_of_want day (wants.Sweep a) = if is_sub_account day a then a ∷ option_to_list (first_dca day (owner day a)) else []
accounts_of_want day wants.End = account_numbers day
