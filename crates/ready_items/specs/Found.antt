-- Of each account its candidate, and the members: the candidates, and of the batches of B those that are the candidate of all their debtor
-- accounts.
use Rattle.std.specs.Prelude.{◌≡◌, ℕ, ◌-◌, ◌<◌, Bool, true, false, if◌then◌else◌, List, ◌++◌, length, replicate, Option, None, Some, nat_eq, nat_le, slice_index_or, slice_set}
use Rattle.std.specs.List.{list_all}
use Rattle.batch_records.specs.DayRecord.{Day}
use Rattle.machine.specs.declared.answers.Item.{Item}
use Rattle.machine.specs.Words.{some_passes}
use Rattle.machine.specs.Records.Messages.{is_b, sort_of}
use Rattle.machine.specs.Stages.Pending.{debtors, stands_on}
use Rattle.number_set.specs.Members.{has}
use Rattle.scan_laws.specs.Numbers.{IsItem, item_count, item_of}
use Rattle.ready_items.specs.Goes.{asks}

pub record Found : Type 0 where
  pub candidates : List (Option ℕ)
  pub members : List Bool
  -- for how many more numbers there is room
  pub room : ℕ

abbrev pub candidate : Found → ℕ → Option ℕ
candidate f a = slice_index_or f.candidates a None

-- number y is the candidate of the account
abbrev pub is_candidate : Found → ℕ → ℕ → Bool
is_candidate f y a = some_passes (nat_eq y) (candidate f a)

abbrev pub is_b_at : Day → ℕ → Bool
is_b_at day y = is_b (sort_of day (item_of day y).msg)

-- number y is the candidate of all debtor accounts of batch n
abbrev pub is_all_of : Day → Found → ℕ → ℕ → Bool
is_all_of day f n y = list_all (is_candidate f y) (debtors day n)

abbrev pub is_whole_of : Day → Found → ℕ → Option ℕ → Bool
is_whole_of day f n None = false
is_whole_of day f n (Some y) = is_all_of day f n y

-- what may be the candidate of account a
abbrev pub MayStand : Day → ℕ → Option ℕ → Type 0
MayStand day a None = Unit {0}
MayStand day a (Some y) = (y < item_count day) × (stands_on day a (item_of day y) ≡ true)

pub record AreMembers (day : Day) (f : Found) : Type 0 where
  pub room : length f.members ≡ item_count day
  pub stands : (a : ℕ) → MayStand day a (candidate f a)
  pub single : (a y : ℕ) → candidate f a ≡ Some y → is_b_at day y ≡ false → has f.members y ≡ true
  pub whole : (a y : ℕ) → candidate f a ≡ Some y → is_b_at day y ≡ true → is_all_of day f (item_of day y).msg y ≡ true → has f.members y ≡ true

-- with so many numbers more, which are no members
abbrev pub with_numbers : ℕ → Found → Found
with_numbers more f = record { candidates = f.candidates; members = f.members ++ replicate more false; room = f.room - more }

-- ---- another candidate

abbrev pub without : Option ℕ → List Bool → List Bool
without None members = members
without (Some y) members = slice_set members y false

-- with the candidate of account a, and without the member that it was
abbrev pub replaced : ℕ → Option ℕ → Found → Found
replaced a new f = record f { candidates = slice_set f.candidates a new; members = without (candidate f a) f.members }

abbrev pub with_if : Bool → Option ℕ → Found → Found
with_if b None f = f
with_if b (Some y) f = record f { members = if b then slice_set f.members y true else f.members }

-- the head of the account, if the balance covers it
abbrev pub IsHeadCandidate : Day → ℕ → Item → ℕ → Option ℕ → Type 0
IsHeadCandidate day a head money None = IsItem day head.msg head.entry → nat_le (asks day head a) money ≡ false
IsHeadCandidate day a head money (Some y) = (y < item_count day) × (item_of day y ≡ head) × (nat_le (asks day head a) money ≡ true)
