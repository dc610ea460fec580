-- Days in their order, and the search for the next open one.
use Rattle.std.proofs.Common.{◌≡◌, ℕ, ◌-◌, ◌<◌, ◌≤◌, ◌⊎◌, inl, inr, true, false, sym, arith}
use Rattle.std.proofs.lemmas.Bool.Decides.{nat_tests}
use Rattle.period_calendar.specs.Calendar.{CivilDay, is_civil}
use Rattle.period_calendar.specs.Closing.{is_closing, is_open}
use Rattle.period_calendar.specs.NextDay.{digits_of, IsCivil, IsOpen, IsLater, IsDayAfter, IsLastOpen, NoneOpenBetween}

small : (day : CivilDay) → IsCivil day → (day.month < 100) × (day.day < 100)
unfolding is_civil
small day h = (grind (arith, nat_tests), grind (arith, nat_tests))

open_parts : (day : CivilDay) → IsOpen day → IsCivil day × (day.year ≤ 2099)
unfolding is_open
open_parts day h = (grind (arith, nat_tests), grind (arith, nat_tests))

-- fewer days are left after a later day
pub fewer_left : (day next : CivilDay) → IsCivil day → day.year ≤ 2099 → IsLater day next → 21010000 - digits_of next < 21010000 - digits_of day
fewer_left day next civil known later = let s = small day civil in omega (arith, s.0, s.1, known, later)

same_parts : (day other : CivilDay) → IsCivil day → IsCivil other → digits_of day ≡ digits_of other → (day.year ≡ other.year) × (day.month ≡ other.month) × (day.day ≡ other.day)
same_parts day other c d same =
    let s = small day c in
    let t = small other d in
    (omega (arith, s.0, s.1, t.0, t.1, same), omega (arith, s.0, s.1, t.0, t.1, same), omega (arith, s.0, s.1, t.0, t.1, same))

not_closing : (day : CivilDay) → IsOpen day → is_closing day.year day.month day.day ≡ false
unfolding is_open
not_closing day h = grind (arith, nat_tests)

closed : (y m d y' m' d' : ℕ) → y ≡ y' → m ≡ m' → d ≡ d' → is_closing y m d ≡ true → is_closing y' m' d' ≡ false → ⊥
closed y m d y' m' d' p q r c o = absurd (cc)

-- a closing day in between leaves none that is open
pub still_none : (from day next : CivilDay) → NoneOpenBetween from day → IsCivil day → is_closing day.year day.month day.day ≡ true → IsDayAfter day next → NoneOpenBetween from next
still_none from day next none civil closing after other opens later before = go (order (digits_of other) (digits_of day))
  where
    order : (a b : ℕ) → (a < b) ⊎ ((a ≡ b) ⊎ (b < a))
    order a b = grind (arith, nat_tests)

    go : (digits_of other < digits_of day) ⊎ ((digits_of other ≡ digits_of day) ⊎ (digits_of day < digits_of other)) → ⊥
    go (inl earlier) = none other opens later earlier
    go (inr (inl same)) =
        let p = same_parts day other civil (open_parts other opens).0 (sym same) in
        closed _ _ _ _ _ _ p.0 p.1 p.2 closing (not_closing other opens)
    go (inr (inr behind)) = after.first other (open_parts other opens).0 behind before

-- after the known years no day is open
pub none_later : (from day : CivilDay) → NoneOpenBetween from day → 2100 ≤ day.year → IsLastOpen from
none_later from day none past other opens later =
    let o = open_parts other opens in
    let s = small other o.0 in
    none other opens later (omega (arith, s.0, s.1, o.1, past))
