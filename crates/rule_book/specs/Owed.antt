-- What the batches of procedure B take from the accounts that they debit, in lists that grow within room.
use Rattle.std.specs.Prelude.{ℕ, ◌≡◌, ◌≤◌, ◌<◌, ◌^◌, ◌&&◌, Bool, List, [], ◌∷◌, Option, None, Some, length, nat_eq, nat_lt, slice_index, true, if◌then◌else◌}
use Rattle.std.specs.Option.{option_map_or}
use Rattle.cash_amounts.specs.Tests.{same_name}
use Rattle.first_of_key.specs.declared.key.Key.{Key}
use Rattle.first_of_key.specs.First.{Entered}
use Rattle.batch_records.specs.DayRecord.{Day}
use Rattle.commit_journal.specs.declared.line.Move.{Move}
use Rattle.machine.specs.Words.{same_account}
use Rattle.batch_records.specs.declared.day.Message.{Message}
use Rattle.machine.specs.Records.Messages.{entries_in, is_b, message_at, sort_of, sort_of_body}
use Rattle.machine.specs.Making.Lines.{gross}

-- a batch and an account that its debit entries take from, as words
abbrev pub debtor_words : ℕ → ℕ → List ℕ
debtor_words n a = n ∷ a ∷ 0 ∷ 0 ∷ 0 ∷ 0 ∷ []

abbrev pub debtor_key : ℕ → ℕ → Key
debtor_key n a = record { words = debtor_words n a }

-- the keys that are entered, how much of each, and how many there can be
pub record Debts : Type 0 where
  pub keys : List Key
  pub sums : List ℕ
  pub most : ℕ

-- a sum for each key, and room for one of each that there can be
pub record HasSums (keys : Entered) (count room : ℕ) : Type 0 where
  pub one_each : count ≡ length keys.keys
  pub fits : keys.most ≤ room

-- the sum of the first key that passes
unfoldable pub sum_of : (Key → Bool) → List Key → List ℕ → ℕ
sum_of test [] sums = 0
sum_of test (k ∷ keys) [] = 0
sum_of test (k ∷ keys) (s ∷ sums) = if test k then s else sum_of test keys sums

abbrev pub is_debtor : ℕ → ℕ → Key → Bool
is_debtor n a key = same_name key.words (debtor_words n a)

-- what is entered of an account of a batch
abbrev pub owed : Debts → ℕ → ℕ → ℕ
owed debts n a = sum_of (is_debtor n a) debts.keys debts.sums

-- the account of a key, where that is one of this batch
abbrev pub account_of : ℕ → Key → Option ℕ
account_of n key = if nat_eq (slice_index key.words 0) n && nat_lt (slice_index key.words 1) (2 ^ 32) then Some (slice_index key.words 1) else None

abbrev pub debtor_of : ℕ → Option Key → Option ℕ
debtor_of n None = None
debtor_of n (Some key) = account_of n key

-- what a move takes from an account, if it goes to the technical account
abbrev pub debited : Option ℕ → Option Move → ℕ → ℕ
debited technical found a = option_map_or (λ (m : Move). if same_account (Some m.credit) technical && nat_eq m.debit a then m.amount else 0) found 0

-- how many entries a message has, where it is a batch of B
abbrev pub size_of_b : Message → ℕ
size_of_b m = if is_b (sort_of_body m.body) then length (entries_in m.body) else 0

abbrev pub b_size : Day → ℕ → ℕ
b_size day n = option_map_or size_of_b (message_at day n) 0

-- of each batch of B all that its debit entries take from each account is entered
abbrev pub Owes : Day → Debts → Type 0
Owes day debts = (n a : ℕ) → is_b (sort_of day n) ≡ true → owed debts n a ≡ gross day n a

-- those of a day, in which nothing is entered of a number after its messages
pub record AreDebts (day : Day) (debts : Debts) : Type 0 where
  pub owes : Owes day debts
  pub free : (n a : ℕ) → length day.messages < n → owed debts n a ≡ 0
