-- The statements of a year, as they are kept.
use Rattle.std.specs.Prelude.{ℕ, ◌≡◌, List, [], ◌∷◌, length, unwrap_or}
use Rattle.std.specs.List.{flat_map}
use Rattle.cash_amounts.specs.declared.records.AccountRecord.{AccountRecord}
use Rattle.account_book.specs.Directory.{account_name}
use Rattle.machine.specs.Words.{numbered, numbers}
use Rattle.day_chain.specs.declared.ledger.YearSums.{YearSums}
use Rattle.day_chain.specs.declared.sums.Sums.{Sums}
use Rattle.day_chain.specs.ChainTexts.{sums_text}
use Rattle.day_chain.specs.Summing.{HaveRoom}

abbrev pub no_sums : Sums
no_sums = record { opening = 0; debits = 0; credits = 0; aside = 0 }

-- the statement of account a
abbrev pub year_line : List AccountRecord → YearSums → ℕ → List ℕ
year_line accounts book a = sums_text book.year (account_name accounts a) (unwrap_or (numbered book.sums.items a) no_sums)

abbrev pub book_text : List AccountRecord → YearSums → List ℕ
book_text accounts book = flat_map (year_line accounts book) (numbers accounts)

abbrev pub books_text : List AccountRecord → List YearSums → List ℕ
books_text accounts books = flat_map (book_text accounts) books

-- there are sums of each account
pub record IsLong (accounts : List AccountRecord) (book : YearSums) : Type 0 where
  pub long : length book.sums.items ≡ length accounts
  pub room : HaveRoom 0 book.sums.items

abbrev pub AllLong : List AccountRecord → List YearSums → Type 0
AllLong accounts [] = Unit {0}
AllLong accounts (book ∷ books) = IsLong accounts book × AllLong accounts books
