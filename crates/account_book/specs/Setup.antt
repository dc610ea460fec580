-- What a book is built from.
use Rattle.std.specs.Prelude.{List}
use Rattle.cash_amounts.specs.declared.records.AccountRecord.{AccountRecord}
use Rattle.cash_amounts.specs.declared.records.SystemRecord.{SystemRecord}

-- accounts and systems, each in file order
pub record Setup : Type 0 where
  pub accounts : List AccountRecord
  pub systems : List SystemRecord
