-- Numbers of items as sums.
use Rattle.std.proofs.Common.{◌≡◌, ℕ, zero, suc, ◌+◌, ◌-◌, ◌<◌, ◌≤◌, length, true, refl, ap, arith}
use Rattle.batch_records.specs.DayRecord.{Day}
use Rattle.batch_records.specs.Sound.{is_sound}
use Rattle.machine.specs.Records.Messages.{entries}
use Rattle.machine.specs.Orders.Bounds.{entries_of_all, line_limit}
use Rattle.settlement_laws.proofs.Base.Sums.{sum_from}
use Rattle.settlement_laws.proofs.DayEnd.LineBound.{entries_sum}
use Rattle.settlement_laws.proofs.Base.SoundParts.{few_lines}
use Rattle.scan_laws.specs.Numbers.{before, items_after, item_count, item_number}

pub number-first : (day : Day) → item_number day 1 0 ≡ 0
unfolding item_number before
number-first day = refl

pub number-entry : (day : Day) (n k : ℕ) → item_number day n k ≡ item_number day n 0 + k
unfolding item_number
number-entry day n k = omega arith

pub number-message : (day : Day) (n : ℕ) → 1 ≤ n → item_number day (n + 1) 0 ≡ item_number day n 0 + (length (entries day n) + 1)
unfolding item_number before
number-message day zero l = absurd (omega (arith, l))
number-message day (suc n) l =
    let e : suc n + 1 - 1 ≡ suc n = omega arith in
    let f : suc n - 1 ≡ n = omega arith in
    let a : before (items_after day) (suc n + 1 - 1) ≡ before (items_after day) n + items_after day n = ap (before (items_after day)) e in
    let b : before (items_after day) (suc n - 1) ≡ before (items_after day) n = ap (before (items_after day)) f in
    omega (arith, a, b)

pub number-last : (day : Day) → item_number day (length day.messages + 1) 0 ≡ item_count day
unfolding item_number item_count
number-last day =
    let e : length day.messages + 1 - 1 ≡ length day.messages = omega arith in
    let a : before (items_after day) (length day.messages + 1 - 1) ≡ before (items_after day) (length day.messages) = ap (before (items_after day)) e in
    omega (arith, a)

sum-last : (f : ℕ → ℕ) (s n : ℕ) → sum_from f s (suc n) ≡ sum_from f s n + f (s + n)
sum-last f s zero = let e : s + 0 ≡ s = omega arith in let a : f (s + 0) ≡ f s = ap f e in omega (arith, a)
sum-last f s (suc n) =
    let e : suc s + n ≡ s + suc n = omega arith in
    let a : f (suc s + n) ≡ f (s + suc n) = ap f e in
    let b : sum_from f (suc s) (suc n) ≡ sum_from f (suc s) n + f (suc s + n) = sum-last f (suc s) n in
    omega (arith, a, b)

before-sum : (day : Day) (n : ℕ) → before (items_after day) n ≡ n + sum_from (λ m. length (entries day m)) 1 n
unfolding before
before-sum day zero = refl
before-sum day (suc n) =
    let e : 1 + n ≡ suc n = omega arith in
    let a : length (entries day (1 + n)) ≡ length (entries day (suc n)) = ap (λ m. length (entries day m)) e in
    let b = before-sum day n in
    let c : sum_from (λ m. length (entries day m)) 1 (suc n) ≡ sum_from (λ m. length (entries day m)) 1 n + length (entries day (1 + n)) = sum-last (λ m. length (entries day m)) 1 n in
    omega (arith, a, b, c)

-- one for each message and one for each entry
pub count-is : (day : Day) → item_count day ≡ length day.messages + entries_of_all day
unfolding item_count
count-is day = let a = before-sum day (length day.messages) in let b = entries_sum day in omega (arith, a, b)

pub count-few : (day : Day) → is_sound day ≡ true → item_count day < line_limit
count-few day sound = let a = count-is day in let b = few_lines day sound in omega (arith, a, b)
