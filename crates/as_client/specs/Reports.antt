-- The report of a party: what its accounts hold, how far its messages have come, and how many statuses it took.
use Rattle.std.specs.Prelude.{ℕ, List, [], ◌∷◌, ◌++◌, filter, decimal, codes}
use Rattle.std.specs.List.{flat_map}
use Rattle.cash_amounts.specs.AmountText.{amount_text}
use Rattle.outside_io.specs.TextLine.{text_line}
use Rattle.batch_records.specs.DayRecord.{Day}
use Rattle.machine.specs.Words.{same_name}
use Rattle.machine.specs.Records.Setup.{account_numbers, owner}
use Rattle.machine.specs.Records.Messages.{message_numbers, sender}
use Rattle.status_messages.specs.Statuses.{account_name, id_of}
use Rattle.as_client.specs.declared.view.Word.{Word}
use Rattle.as_client.specs.PartyWords.{word_text}

-- the accounts that the party owns, and the messages that it sent, both by number in file order
abbrev pub accounts_owned : Day → List ℕ → List ℕ
accounts_owned day name = filter (λ a. same_name (owner day a) name) (account_numbers day)

abbrev pub messages_sent : Day → List ℕ → List ℕ
messages_sent day name = filter (λ n. same_name (sender day n) name) (message_numbers day)

-- what the account of a name holds
abbrev pub balance_line : List ℕ → ℕ → List ℕ
balance_line account balance = text_line (codes "B" ∷ account ∷ amount_text balance ∷ [])

-- how far message n of an identification has come
abbrev pub word_line : ℕ → List ℕ → Word → List ℕ
word_line n id word = text_line (codes "P" ∷ decimal n ∷ id ∷ word_text word ∷ [])

abbrev pub holding_text : Day → ℕ → ℕ → List ℕ
holding_text day a balance = balance_line (account_name day a) balance

abbrev pub message_text : Day → ℕ → Word → List ℕ
message_text day n word = word_line n (id_of day n) word

-- that all is well, and of how many statuses
abbrev pub count_text : ℕ → List ℕ
count_text count = text_line (codes "OK" ∷ decimal count ∷ [])

abbrev pub holdings_text : Day → List ℕ → (ℕ → ℕ) → List ℕ
holdings_text day name holding = flat_map (λ a. holding_text day a (holding a)) (accounts_owned day name)

abbrev pub messages_text : Day → List ℕ → (ℕ → Word) → List ℕ
messages_text day name word = flat_map (λ n. message_text day n (word n)) (messages_sent day name)

abbrev pub report : Day → List ℕ → (ℕ → ℕ) → (ℕ → Word) → ℕ → List ℕ
report day name holding word count = holdings_text day name holding ++ (messages_text day name word ++ count_text count)
