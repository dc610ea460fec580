-- What a party knows before any status.
use Rattle.std.specs.Prelude.{ℕ, List, Option}
use Rattle.cash_amounts.specs.declared.records.AccountRecord.{AccountRecord}
use Rattle.batch_records.specs.declared.day.Message.{Message}
use Rattle.machine.specs.Words.{same_name, when}
use Rattle.as_client.specs.declared.view.Word.{Word}
use Rattle.as_client.specs.declared.view.Word.TheVariants as words

-- what an account holds, where it is the party's
abbrev pub opening_told : List ℕ → AccountRecord → Option ℕ
opening_told name r = when (same_name r.owner name) r.opening

-- the word of a message, where it is the party's
abbrev pub word_of_sender : List ℕ → Message → Option Word
word_of_sender name m = when (same_name m.sender name) words.Nothing
