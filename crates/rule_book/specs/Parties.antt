-- The entries of batches by the banks that own accounts of them.
use Rattle.std.specs.Prelude.{ℕ, ◌≡◌, ◌+◌, ◌*◌, ◌%◌, ◌<◌, ◌≤◌, Bool, true, false, ◌||◌, List, [], Option, length, map, min, is_some, nat_eq, slice_index, unwrap_or}
use Rattle.std.specs.List.{list_any}
use Rattle.std.specs.List.Sorted.{IsSorted}
use Rattle.std.specs.Option.{option_map_or}
use Rattle.std.specs.Ordering.{nat_cmp}
use Rattle.cash_amounts.specs.declared.limits.TheConstants.{MAX_ENTRIES}
use Rattle.batch_records.specs.DayRecord.{Day}
use Rattle.commit_journal.specs.declared.line.Move.{Move}
use Rattle.machine.specs.Words.{numbered, some_passes}
use Rattle.machine.specs.Records.Setup.{first_dca}
use Rattle.machine.specs.Records.Messages.{entry_at, info_end}
use Rattle.machine.specs.Telling.Facts.{is_party}

-- whether the bank owns an account of entry k
abbrev pub is_party_at : Day → ℕ → List ℕ → ℕ → Bool
is_party_at day n bank k = some_passes (is_party day bank) (entry_at day n k)

-- a batch to which banks may object states an end of its information period
abbrev pub is_informed : Day → ℕ → Bool
is_informed day n = is_some (info_end day n)

-- ---- numbers of banks

-- the first dedicated cash account of a bank; 0 of a name that is no bank's
abbrev pub bank_number : Day → List ℕ → ℕ
bank_number day bank = unwrap_or (first_dca day bank) 0

-- that of the owner of each account
abbrev pub owner_numbers : Day → List ℕ
owner_numbers day = map (λ r. bank_number day r.owner) day.accounts

abbrev pub owner_in : List ℕ → ℕ → ℕ
owner_in numbers a = option_map_or (λ b. b) (numbered numbers a) 0

-- whether the bank of a number owns an account of a move
abbrev pub joins : List ℕ → ℕ → Move → Bool
joins numbers b m = nat_eq (owner_in numbers m.debit) b || nat_eq (owner_in numbers m.credit) b

abbrev pub is_joined : List ℕ → ℕ → Option Move → Bool
is_joined numbers b found = some_passes (joins numbers b) found

-- ---- keys

-- by batch, then by bank, then by entry
abbrev pub key : ℕ → ℕ → ℕ → ℕ
key n b k = (n * 65536 + b) * 65536 + k

abbrev pub entry_of : ℕ → ℕ
entry_of x = x % 65536

abbrev pub is_listed : List ℕ → ℕ → Bool
is_listed keys x = list_any (nat_eq x) keys

-- whether a key is of entry k
abbrev pub names_entry : List ℕ → ℕ → Bool
names_entry keys k = list_any (λ x. nat_eq (entry_of x) k) keys

-- where a key stands, or would stand: all before it are less, and none from it on
pub record IsPlace (keys : List ℕ) (x i : ℕ) : Type 0 where
  pub within : i ≤ length keys
  pub less : (j : ℕ) → j < i → slice_index keys j < x
  pub others : (j : ℕ) → i ≤ j → j < length keys → x ≤ slice_index keys j

-- all of these keys are of batch n
abbrev pub AreOf : ℕ → List ℕ → Type 0
AreOf n keys = (x : ℕ) → is_listed keys x ≡ true → (key n 0 0 ≤ x) × (x < key (n + 1) 0 0)

-- all of these keys are of batches before batch n
abbrev pub AreBefore : ℕ → List ℕ → Type 0
AreBefore n keys = (x : ℕ) → is_listed keys x ≡ true → x < key n 0 0

-- keys with more of batch n
pub record Adds (n : ℕ) (old new : List ℕ) : Type 0 where
  pub keeps : (x : ℕ) → is_listed old x ≡ true → is_listed new x ≡ true
  pub of_batch : AreOf n old → AreOf n new

-- the keys, the numbers of the owners of all accounts, and how many keys there can be
pub record Listed : Type 0 where
  pub keys : List ℕ
  pub numbers : List ℕ
  pub most : ℕ

-- rising keys with room for all that there can be, and an empty list with room for those of one batch: two of each entry, at most
pub record HasKeys (keys own : List ℕ) (most room own_room : ℕ) : Type 0 where
  pub rising : IsSorted nat_cmp keys
  pub empty : own ≡ []
  pub fits : most ≤ room
  pub own_fits : min most (2 * MAX_ENTRIES) ≤ own_room

-- room for the numbers of the owners of so many accounts, and for so many keys
pub record PartyRoom : Type 0 where
  pub accounts : ℕ
  pub most : ℕ

-- nothing is there, and there is that much room
pub record IsFree (keys own numbers : List ℕ) (accounts most room own_room numbers_room : ℕ) : Type 0 where
  pub no_keys : keys ≡ []
  pub none : own ≡ []
  pub no_numbers : numbers ≡ []
  pub fits : most ≤ room
  pub own_fits : min most (2 * MAX_ENTRIES) ≤ own_room
  pub accounts_fit : accounts ≤ numbers_room

-- ---- what is listed

-- each entry of batch n, by each bank that owns an account of it
abbrev pub AreListed : Day → List ℕ → ℕ → Type 0
AreListed day keys n = (k : ℕ) (bank : List ℕ) → nat_eq (bank_number day bank) 0 ≡ false → is_party_at day n bank k ≡ true → is_listed keys (key n (bank_number day bank) k) ≡ true

-- the same of all batches to which banks may object
abbrev pub Lists : Day → List ℕ → Type 0
Lists day keys = (n : ℕ) → is_informed day n ≡ true → AreListed day keys n

-- those of a day, in which all keys are of its messages
pub record AreParties (day : Day) (listed : Listed) : Type 0 where
  pub lists : Lists day listed.keys
  pub before : AreBefore (length day.messages + 1) listed.keys
  pub numbers : listed.numbers ≡ owner_numbers day

-- keys with those of batch n after those of the batches before it
pub record Arrived (day : Day) (n : ℕ) (old new : List ℕ) : Type 0 where
  pub keeps : (x : ℕ) → is_listed old x ≡ true → is_listed new x ≡ true
  pub lists : is_informed day n ≡ true → AreListed day new n
  pub before : AreBefore (n + 1) new
  pub rising : IsSorted nat_cmp new

-- the entries of a bank in such a batch are found by this number
pub record IsListedBank (day : Day) (n : ℕ) (bank : List ℕ) (b : ℕ) : Type 0 where
  pub informed : is_informed day n ≡ true
  pub number : b ≡ bank_number day bank
  pub a_bank : nat_eq b 0 ≡ false

-- each entry of batch n that the bank owns an account of is one of these
abbrev pub HasParts : Day → ℕ → List ℕ → List ℕ → Type 0
HasParts day n bank keys = (k : ℕ) → is_party_at day n bank k ≡ true → names_entry keys k ≡ true
