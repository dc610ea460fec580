-- Where an account stands in its group.
use Rattle.std.proofs.Common.{◌≡◌, ℕ, zero, suc, ◌-◌, ◌/◌, ◌%◌, ◌<◌, ◌≤◌, refl, arith}
use Rattle.lock_book.specs.Groups.{account_at, first_of, group_size}

pub record IsFirst (number first : ℕ) : Type 0 where
  pub above : 0 < first
  pub below : first ≤ 8
  pub rest : first % 8 ≡ number

pub first_is : (number : ℕ) → number < 8 → IsFirst number (first_of number)
first_is zero low = record { above = omega arith; below = omega arith; rest = refl }
first_is (suc n) low = record { above = omega arith; below = omega arith; rest = omega (arith, low) }

-- the account of a place, and the place of an account
pub account_of_place : (a number : ℕ) → number < 8 → 0 < a → a % 8 ≡ number → a ≡ account_at number ((a - 1) / 8)
account_of_place a number low from rest =
    let f = first_is number low in
    let u = f.above in
    let v = f.below in
    let w = f.rest in
    omega (arith, from, rest, u, v, w)

pub place_of_account : (a number i : ℕ) → number < 8 → a ≡ account_at number i → (0 < a) × (a % 8 ≡ number) × ((a - 1) / 8 ≡ i)
place_of_account a number i low e =
    let f = first_is number low in
    let u = f.above in
    let v = f.below in
    let w = f.rest in
    (omega (arith, e, u), omega (arith, e, u, v, w), omega (arith, e, u, v, w))

pub within_day : (a number count : ℕ) → number < 8 → 0 < a → a % 8 ≡ number → (a - 1) / 8 < group_size count number → a ≤ count
within_day a number count low from rest h =
    let f = first_is number low in
    let u = f.above in
    let v = f.below in
    let w = f.rest in
    omega (arith, from, rest, h, u, v, w)

pub within_group : (a number count : ℕ) → number < 8 → 0 < a → a % 8 ≡ number → a ≤ count → (a - 1) / 8 < group_size count number
within_group a number count low from rest h =
    let f = first_is number low in
    let u = f.above in
    let v = f.below in
    let w = f.rest in
    omega (arith, from, rest, h, u, v, w)
