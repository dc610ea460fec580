-- What is found out about the batches of a day once.
use Rattle.std.specs.Prelude.{ℕ, ◌≡◌}
use Rattle.batch_records.specs.DayRecord.{Day}
use Rattle.rule_book.specs.declared.batch_tables.BatchTables.{BatchTables}
use Rattle.rule_book.specs.Owed.{AreDebts, owed}
use Rattle.rule_book.specs.Parties.{AreBefore, AreParties, owner_numbers}

-- what each batch of B takes, and the entries of each bank
abbrev pub AreTables : Day → BatchTables → Type 0
AreTables day tables = AreDebts day tables.debts × AreParties day tables.parties

-- nothing is entered of message n, all keys are of messages before it, and the numbers are those of the owners of the day's accounts
pub record AreUpTo (day : Day) (n : ℕ) (tables : BatchTables) : Type 0 where
  pub free : (a : ℕ) → owed tables.debts n a ≡ 0
  pub before : AreBefore n tables.parties.keys
  pub numbers : tables.parties.numbers ≡ owner_numbers day
