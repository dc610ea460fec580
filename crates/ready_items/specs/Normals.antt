-- Normal payments by account, each with its amount while it is pending.
use Rattle.std.specs.Prelude.{◌≡◌, ℕ, ◌+◌, ◌-◌, ◌<◌, ◌≤◌, Bool, true, false, not, ◌&&◌, if◌then◌else◌, List, [], ◌∷◌, ◌++◌, length, Option, None, Some, option_map, nat_le, nat_lt, slice_index, slice_index_or, slice_set, unwrap_or}
use Rattle.std.specs.List.Sorted.{IsStrictlyIncreasing}
use Rattle.batch_records.specs.DayRecord.{Day}
use Rattle.commit_journal.specs.Line.{History}
use Rattle.machine.specs.declared.answers.Item.{Item}
use Rattle.machine.specs.Words.{is_zero}
use Rattle.machine.specs.Records.Messages.{debit_account, is_high, is_pay, part, sort_of}
use Rattle.machine.specs.Stages.Pending.{is_pending, item, stands_on}
use Rattle.scan_laws.specs.Numbers.{item_count, item_number, item_of}
use Rattle.least_tree.specs.Amounts.{amount_at, fits_at}
use Rattle.amount_forest.specs.Lists.{Amounts, list_at, numbers_at}
use Rattle.ready_items.specs.declared.normals.Spot.{Spot}
use Rattle.ready_items.specs.Goes.{asks, takes}

pub record Normals : Type 0 where
  -- by account the amounts of its payments, in the order of the messages
  pub lists : List (List (Option ℕ))
  -- and the numbers of their items
  pub numbers : List (List ℕ)
  -- by message where a payment stands in the list of its account
  pub spots : List Spot
  -- how many more messages there is room for
  pub room : ℕ

-- ---- payments

abbrev pub is_normal_pay : Day → ℕ → Bool
is_normal_pay day n = is_pay (sort_of day n) && not (is_high day n)

-- the account that a payment debits
abbrev pub payer : Day → ℕ → ℕ
payer day n = unwrap_or (option_map (debit_account day) (part day n 0)) 0

-- message n is a normal payment, one of the first so many messages
pub record IsPayment (day : Day) (count n : ℕ) : Type 0 where
  pub first : 1 ≤ n
  pub last : n ≤ count
  pub normal : is_normal_pay day n ≡ true

-- number i is that of the item of such a payment on account a
pub record IsNumberOf (day : Day) (count a i n : ℕ) : Type 0 where
  pub payment : IsPayment day count n
  pub account : payer day n ≡ a
  pub number : i ≡ item_number day n 0

-- ---- their places

abbrev pub spot_at : List Spot → ℕ → Spot
spot_at spots n = slice_index_or spots (n - 1) (record { place = 0; order = 0 })

abbrev pub place_of : Normals → ℕ → ℕ
place_of v n = (spot_at v.spots n).place

-- payment n stands in the list of its account at the place that is kept for it
pub record IsPlaced (day : Day) (v : Normals) (n : ℕ) : Type 0 where
  pub within : place_of v n < length (numbers_at v.numbers (payer day n))
  pub number : slice_index (numbers_at v.numbers (payer day n)) (place_of v n) ≡ item_number day n 0

-- the lists are those of the normal payments of the first so many messages, each once, in their order
pub record HavePayments (day : Day) (count : ℕ) (v : Normals) : Type 0 where
  pub lists : length day.accounts + 1 ≤ length v.lists
  pub both : length v.numbers ≡ length v.lists
  pub sizes : (a : ℕ) → length (list_at v.lists a) ≡ length (numbers_at v.numbers a)
  pub came : length v.spots ≡ count
  pub rise : (a : ℕ) → IsStrictlyIncreasing (numbers_at v.numbers a)
  pub sound : (a q : ℕ) → q < length (numbers_at v.numbers a) → (n : ℕ) × IsNumberOf day count a (slice_index (numbers_at v.numbers a) q) n
  pub placed : (n : ℕ) → IsPayment day count n → IsPlaced day v n

-- ---- amounts

-- the amount of a payment while it is pending
abbrev pub pending_amount : Day → History → ℕ → Option ℕ
pending_amount day J n = if is_pending day J (item n 0) then option_map (λ e. e.amount) (part day n 0) else None

-- the amount that is kept of payment n
abbrev pub amount_of : Day → Normals → ℕ → Option ℕ
amount_of day v n = amount_at (list_at v.lists (payer day n)) (place_of v n)

-- it is that over the lines J
abbrev pub IsAmount : Day → History → Normals → ℕ → Type 0
IsAmount day J v n = amount_of day v n ≡ pending_amount day J n

-- with an amount, or none, at a place of one of the lists
abbrev pub written : List (List (Option ℕ)) → ℕ → ℕ → Option ℕ → List (List (Option ℕ))
written lists a place amount = slice_set lists a (slice_set (list_at lists a) place amount)

abbrev pub put_in : ℕ → ℕ → Option ℕ → Normals → Normals
put_in a place amount v = record { lists = written v.lists a place amount; numbers = v.numbers; spots = v.spots; room = v.room }

-- ---- one message more

-- the number stands at the end of the list, at this place, and has no amount
pub record IsListed (a number at : ℕ) (old new : Amounts) : Type 0 where
  pub end : at ≡ length (list_at old.lists a)
  pub lists : new.lists ≡ slice_set old.lists a (list_at old.lists a ++ None ∷ [])
  pub numbers : new.numbers ≡ slice_set old.numbers a (numbers_at old.numbers a ++ number ∷ [])

-- so does that of the payment that came
pub record IsEntered (a number : ℕ) (old new : Normals) : Type 0 where
  pub spot : Spot
  pub place : spot.place ≡ length (list_at old.lists a)
  pub lists : new.lists ≡ slice_set old.lists a (list_at old.lists a ++ None ∷ [])
  pub numbers : new.numbers ≡ slice_set old.numbers a (numbers_at old.numbers a ++ number ∷ [])
  pub spots : new.spots ≡ old.spots ++ spot ∷ []

-- what came is no payment
pub record IsPassed (old new : Normals) : Type 0 where
  pub spot : Spot
  pub lists : new.lists ≡ old.lists
  pub numbers : new.numbers ≡ old.numbers
  pub spots : new.spots ≡ old.spots ++ spot ∷ []

-- message n came, and no amount with it; the amounts of the payments before it stay
pub record IsArrived (day : Day) (n : ℕ) (old new : Normals) : Type 0 where
  pub have : HavePayments day n new
  pub own : is_normal_pay day n ≡ true → amount_of day new n ≡ None
  pub others : (m : ℕ) → 1 ≤ m → m < n → amount_of day new m ≡ amount_of day old m

-- ---- the first one that fits

-- k stands at a place q, and is the first number from this one on whose amount is at most this much
pub record IsFit (numbers : List ℕ) (amounts : List (Option ℕ)) (from most k : ℕ) : Type 0 where
  pub place : ℕ
  pub inside : place < length numbers
  pub is : slice_index numbers place ≡ k
  pub low : from ≤ k
  pub fits : fits_at amounts most place ≡ true
  pub none_before : (q : ℕ) → q < length numbers → from ≤ slice_index numbers q → slice_index numbers q < k → fits_at amounts most q ≡ false

abbrev pub IsFirstFit : List ℕ → List (Option ℕ) → ℕ → ℕ → Option ℕ → Type 0
IsFirstFit numbers amounts from most None = (q : ℕ) → q < length numbers → from ≤ slice_index numbers q → fits_at amounts most q ≡ false
IsFirstFit numbers amounts from most (Some k) = IsFit numbers amounts from most k

-- the item is a normal payment
abbrev pub is_normal_item : Day → Item → Bool
is_normal_item day x = is_zero x.entry && is_normal_pay day x.msg

-- the item of a number is a normal payment that is pending on the account and takes at most this much
abbrev pub fits_normal : Day → History → ℕ → ℕ → ℕ → Bool
fits_normal day J a most i =
    nat_lt i (item_count day) && (is_normal_item day (item_of day i) && (is_pending day J (item_of day i) && (stands_on day a (item_of day i) && nat_le (takes day (item_of day i) a) most)))

-- the same of one for which this much is enough: what it takes and must leave
abbrev pub goes_normal : Day → History → ℕ → ℕ → ℕ → Bool
goes_normal day J a money i =
    nat_lt i (item_count day) && (is_normal_item day (item_of day i) && (is_pending day J (item_of day i) && (stands_on day a (item_of day i) && nat_le (asks day (item_of day i) a) money)))
