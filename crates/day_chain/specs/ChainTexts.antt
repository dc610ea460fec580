-- The texts of a chain of days.
use Rattle.std.specs.Prelude.{ℕ, List, [], ◌∷◌, ◌++◌, length, reverse, decimal, codes}
use Rattle.std.specs.List.{flat_map}
use Rattle.cash_amounts.specs.AmountText.{amount_text}
use Rattle.period_calendar.specs.MomentTexts.{date_text}
use Rattle.outside_io.specs.TextLine.{text_line}
use Rattle.cash_amounts.specs.declared.records.AccountRecord.{AccountRecord}
use Rattle.account_book.specs.Directory.{account_name}
use Rattle.batch_records.specs.DayRecord.{Day}
use Rattle.batch_records.specs.declared.day.DayCode.{DayCode}
use Rattle.commit_journal.specs.Text.{journal_text}
use Rattle.program_answers.specs.Answers.{day_code_text, ok_text}
use Rattle.machine.specs.Words.{numbers}
use Rattle.machine.specs.Orders.Order.{plain}
use Rattle.day_chain.specs.declared.joining.JoinFault.{JoinFault}
use Rattle.day_chain.specs.declared.joining.JoinFault.TheVariants as join_faults
use Rattle.day_chain.specs.declared.sums.Sums.{Sums}
use Rattle.day_chain.specs.Statements.{by_year, closing_of, sums_of, year_of}

-- ---- the days, of which the latest stands first in the lists

-- a day: its date, and the lines of its journal
abbrev pub date_line : Day → List ℕ
date_line day = text_line (codes "D" ∷ date_text day.date ∷ [])

unfoldable pub part_text : Day → List ℕ
part_text day = date_line day ++ journal_text (plain day)

unfoldable pub parts_text : List Day → List ℕ
parts_text [] = []
parts_text (day ∷ days) = parts_text days ++ part_text day

-- ---- the statements

-- of an account of this name, with what is summed up of it over a year
unfoldable pub sums_text : ℕ → List ℕ → Sums → List ℕ
sums_text year name s = text_line (
    codes "Y" ∷ decimal year ∷ name
    ∷ amount_text s.opening ∷ amount_text s.debits ∷ amount_text s.credits ∷ amount_text s.aside ∷ amount_text (closing_of s)
    ∷ [])

-- of each of these accounts over the days of a year, in file order
unfoldable pub year_text : List AccountRecord → List Day → List ℕ
year_text accounts days = flat_map (λ a. sums_text (year_of days) (account_name accounts a) (sums_of days a)) (numbers accounts)

-- the accounts of a chain, which are those of its latest day
abbrev pub accounts_of : List Day → List AccountRecord
accounts_of [] = []
accounts_of (day ∷ days) = day.accounts

-- by year
abbrev pub statements_text : List Day → List ℕ
statements_text days = flat_map (year_text (accounts_of days)) (reverse (by_year days))

-- ---- how it ends

-- the statements over all days
abbrev pub end_text : List Day → List ℕ
end_text days = statements_text days ++ ok_text (length days)

-- day k is refused: its first bad record with its code
abbrev pub refusal_text : ℕ → ℕ → DayCode → List ℕ
refusal_text k number code = text_line (codes "E" ∷ decimal k ∷ decimal number ∷ day_code_text code ∷ [])

abbrev pub fault_word : JoinFault → List ℕ
fault_word join_faults.Gap = codes "GAP"
fault_word (join_faults.Setup account) = codes "SETUP"
fault_word (join_faults.Open account) = codes "OPEN"

abbrev pub fault_account : JoinFault → ℕ
fault_account join_faults.Gap = 0
fault_account (join_faults.Setup account) = account
fault_account (join_faults.Open account) = account

-- day k doesn't join the one before it
abbrev pub fault_text : ℕ → JoinFault → List ℕ
fault_text k fault = text_line (codes "CHAIN" ∷ decimal k ∷ fault_word fault ∷ decimal (fault_account fault) ∷ [])

abbrev pub usage_text : List ℕ
usage_text = codes "usage: day_chain\n"
