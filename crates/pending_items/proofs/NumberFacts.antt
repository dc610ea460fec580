-- Each item of a day has a number of its own.
use Rattle.std.proofs.Common.{◌≡◌, ℕ, zero, suc, ◌+◌, ◌-◌, ◌^◌, ◌<◌, ◌≤◌, true, ◌&&◌, List, [], ◌∷◌, length, refl, ap, ◌∙◌, inl, inr, arith}
use Rattle.std.specs.Prelude.{nat_le, slice_get, option_map}
use Rattle.std.specs.Option.{option_map_or}
use Rattle.std.proofs.lemmas.List.FromFn.{length-map-range_with_len}
use Rattle.std.proofs.lemmas.Bool.{and_from, and_parts, cases_eq, cases_lt, le-leb, leb-true}
use Rattle.batch_records.specs.DayRecord.{Day}
use Rattle.batch_records.specs.Sound.{is_sound}
use Rattle.machine.specs.declared.answers.Item.{Item}
use Rattle.machine.specs.Records.Messages.{entries}
use Rattle.machine.specs.Orders.Bounds.{line_limit}
use Rattle.machine.proofs.Lists.{numbered_map}
use Rattle.pending_items.specs.Numbers.{is_item, number, number_count, number_in, start, start_in, starts_of}
use Rattle.scan_laws.specs.Numbers.{item_number}
use Rattle.scan_laws.proofs.Sizes.{count-few, number-first, number-last, number-message}

pub record IsItem (day : Day) (x : Item) : Type 0 where
  pub first : 1 ≤ x.msg
  pub last : x.msg ≤ length day.messages
  pub within : x.entry ≤ length (entries day x.msg)

pub item_parts : (day : Day) (x : Item) → is_item day x ≡ true → IsItem day x
item_parts day x h =
    let p = and_parts (nat_le 1 x.msg && nat_le x.msg (length day.messages)) (nat_le x.entry (length (entries day x.msg))) h in
    let q = and_parts (nat_le 1 x.msg) (nat_le x.msg (length day.messages)) p.0 in
    record { first = leb-true 1 x.msg q.0; last = leb-true x.msg (length day.messages) q.1; within = leb-true x.entry (length (entries day x.msg)) p.1 }

pub from_parts : (day : Day) (x : Item) → IsItem day x → is_item day x ≡ true
from_parts day x i = and_from _ _ (and_from _ _ (le-leb 1 x.msg i.first) (le-leb x.msg (length day.messages) i.last)) (le-leb x.entry (length (entries day x.msg)) i.within)

-- ---- where the items of a message begin

pub start_first : (day : Day) → start day 1 ≡ 1
unfolding start
start_first day = refl

pub start_more : (day : Day) (n : ℕ) → start day (suc n) ≡ start day n + suc (length (entries day n))
unfolding start
start_more day n = refl

start_after : (day : Day) (n d : ℕ) → start day n + suc (length (entries day n)) ≤ start day (suc n + d)
start_after day n zero =
    let e : start day (suc n) ≡ start day n + suc (length (entries day n)) = start_more day n in
    let same : suc n + 0 ≡ suc n = omega arith in
    let f : start day (suc n + 0) ≡ start day (suc n) = ap (start day) same in
    omega (arith, e, f)
start_after day n (suc d) =
    let ih : start day n + suc (length (entries day n)) ≤ start day (suc n + d) = start_after day n d in
    let e : start day (suc (suc n + d)) ≡ start day (suc n + d) + suc (length (entries day (suc n + d))) = start_more day (suc n + d) in
    let same : suc n + suc d ≡ suc (suc n + d) = omega arith in
    let f : start day (suc n + suc d) ≡ start day (suc (suc n + d)) = ap (start day) same in
    omega (arith, ih, e, f)

pub start_before : (day : Day) (n m : ℕ) → n < m → start day n + suc (length (entries day n)) ≤ start day m
start_before day n m less =
    let d : ℕ = m - suc n in
    let h : start day n + suc (length (entries day n)) ≤ start day (suc n + d) = start_after day n d in
    let same : suc n + d ≡ m = omega arith in
    let f : start day (suc n + d) ≡ start day m = ap (start day) same in
    omega (arith, h, f)

-- a message's items begin after as many as the scans count before it
start_is : (day : Day) (n : ℕ) → start day (suc n) ≡ suc (item_number day (suc n) 0)
start_is day zero = let a = start_first day in let b = number-first day in omega (arith, a, b)
start_is day (suc n) =
    let ih = start_is day n in
    let a = start_more day (suc n) in
    let b = number-message day (suc n) (omega arith) in
    let at : suc n + 1 ≡ suc (suc n) = omega arith in
    let c : item_number day (suc n + 1) 0 ≡ item_number day (suc (suc n)) 0 = ap (λ m. item_number day m 0) at in
    omega (arith, ih, a, b, c)

-- no more numbers than messages and entries of a day, whatever one batch may have
pub count_few : (day : Day) → is_sound day ≡ true → number_count day < line_limit + 1
count_few day sound =
    let a = start_is day (length day.messages) in
    let at : length day.messages + 1 ≡ suc (length day.messages) = omega arith in
    let b : item_number day (length day.messages + 1) 0 ≡ item_number day (suc (length day.messages)) 0 = ap (λ m. item_number day m 0) at in
    let c = number-last day in
    let d = count-few day sound in
    omega (arith, a, b, c, d)

pub count_small : (day : Day) → is_sound day ≡ true → number_count day < 2 ^ 32 - 1
count_small day sound = let few = count_few day sound in omega (arith, few)

-- ---- numbers

pub number_within : (day : Day) (x : Item) → IsItem day x → number day x < number_count day
number_within day x i =
    let last : x.msg ≤ length day.messages = i.last in
    let within : x.entry ≤ length (entries day x.msg) = i.within in
    let b : start day x.msg + suc (length (entries day x.msg)) ≤ start day (suc (length day.messages)) = start_before day x.msg (suc (length day.messages)) (omega (arith, last)) in
    omega (arith, within, b)

some_there : {X : Type 0} (xs : List X) (i : ℕ) (a : ℕ) → i < length xs → option_map_or (λ s. s) (option_map (λ (x : X). a) (slice_get xs i)) 0 ≡ a
some_there [] i a less = absurd (omega (arith, less))
some_there (x ∷ xs) zero a less = refl
some_there (x ∷ xs) (suc i) a less = some_there xs i a (omega (arith, less))

start_there : (day : Day) (n : ℕ) → 1 ≤ n → n ≤ length day.messages → start_in (starts_of day) n ≡ start day n
start_there day zero low high = absurd (omega (arith, low))
start_there day (suc i) low high =
    ap (λ o. option_map_or (λ s. s) o 0) (numbered_map (start day) day.messages (suc i)) ∙ some_there day.messages i (start day (suc i)) (omega (arith, high))

-- what is read from the table is the number
pub number_is : (day : Day) (x : Item) → is_sound day ≡ true → IsItem day x → number_in (starts_of day) x ≡ number day x
number_is day x sound i =
    let e : start_in (starts_of day) x.msg ≡ start day x.msg = start_there day x.msg i.first i.last in
    let less : number day x < number_count day = number_within day x i in
    let small : number_count day < 2 ^ 32 - 1 = count_small day sound in
    omega (arith, e, less, small)

pub one_number : (day : Day) (x y : Item) → IsItem day x → IsItem day y → number day x ≡ number day y → x ≡ y
one_number day x y i j e =
    elim (cases_eq x.msg y.msg) [
      | inl same ↦ (
          let starts : start day x.msg ≡ start day y.msg = ap (start day) same in
          let k : x.entry ≡ y.entry = omega (arith, e, starts) in
          (λ t. record { msg = same t; entry = k t }))
      | inr other ↦ elim (cases_lt x.msg y.msg) [
        | inl less ↦ (
            let b : start day x.msg + suc (length (entries day x.msg)) ≤ start day y.msg = start_before day x.msg y.msg less in
            let within : x.entry ≤ length (entries day x.msg) = i.within in
            absurd (omega (arith, e, b, within)))
        | inr ge ↦ (
            let b : start day y.msg + suc (length (entries day y.msg)) ≤ start day x.msg = start_before day y.msg x.msg (omega (arith, ge, other)) in
            let within : y.entry ≤ length (entries day y.msg) = j.within in
            absurd (omega (arith, e, b, within)))
      ]
    ]

pub starts_count : (day : Day) → length (starts_of day) ≡ length day.messages
starts_count day = length-map-range_with_len (start day) 1 (length day.messages)
