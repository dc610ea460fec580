-- Our calendar and that of `jiff` are one.
use Rattle.std.proofs.Common.{◌≡◌, ℕ, zero, suc, ◌+◌, ◌-◌, ◌≤◌, ◌==◌, nat_eq, subst, IsTrue, refl, ap, arith, pos}
use Rattle.std.proofs.lemmas.Bool.Decides.{nat_tests}
use Rattle.jiff_core.specs.declared.civil.date.Date.{Date}
use Rattle.jiff_core.specs.Date.{ordinal}
-- of two days_of_months, and of two modules Calendar, this is the kit's
use Rattle.jiff_core.specs.Calendar.{day_count, days_from_civil, weekday_number, days_of_months as jiff_days_of_months}
use Rattle.jiff_core.proofs.MarchLemmas.{day_count-early}
use Rattle.jiff_core.proofs.CalendarLemmas.{day_of_year_bound, days_in_year_bounds, days_from_civil-day_count, day_count-day_of_year, day_count-next_year, weekday_number-parts}
use Rattle.jiff_core.proofs.SignedLemmas.{signed_arith, one_part}
use Rattle.jiff_core.proofs.DateLemmas.{civil}
use Rattle.period_calendar.specs.Easter.{easter_of}
use Rattle.period_calendar.specs.Closing.{is_good_friday, is_easter_monday}
use Rattle.period_calendar.specs.Calendar.{is_civil, days_in_month, days_of_years, days_of_months, day_number, weekday}

-- the days of the first months of a year
pub same_days_of_months : (year months : ℕ) → jiff_days_of_months (pos year) months ≡ days_of_months year months
unfolding jiff_days_of_months days_of_months
same_days_of_months year zero = refl
same_days_of_months year (suc months) = ap (λ n. n + days_in_month year (suc months)) (same_days_of_months year months)

-- 1 January 2023
first_day : day_count (pos 2023) 1 1 ≡ 4_391_311
first_day = day_count-early (pos 2023) 12022 1 1 refl (omega arith) (omega arith) (omega arith)

-- and 1 January of the years after it
same_days_of_years : (years : ℕ) → day_count (pos (2023 + years)) 1 1 ≡ 4_391_311 + days_of_years years
unfolding days_of_years
same_days_of_years zero = first_day
same_days_of_years (suc years) =
    let next = day_count-next_year (pos (2023 + years)) (pos (2023 + suc years)) (omega (arith, signed_arith)) (omega (arith, signed_arith)) in
    omega (arith, next, same_days_of_years years)

pub same_day_count : (year month day : ℕ) → 2023 ≤ year → 1 ≤ day → day_count (pos year) month day ≡ 4_391_311 + day_number year month day
unfolding day_number
same_day_count year month day known first =
    let back : 2023 + (year - 2023) ≡ year = omega arith in
    let january = rw back at (same_days_of_years (year - 2023)) in
    omega (arith, january, day_count-day_of_year (pos year) month day first, same_days_of_months year (month - 1))

pub same_weekday : (year month day : ℕ) → 2023 ≤ year → 1 ≤ day → weekday_number (days_from_civil (pos year) month day) ≡ weekday year month day
unfolding weekday
same_weekday year month day known first =
    omega (arith, signed_arith, weekday_number-parts (days_from_civil (pos year) month day), one_part (days_from_civil (pos year) month day), days_from_civil-day_count (pos year) month day, same_day_count year month day known first)

-- the place of a date in its year
pub ordinal_is : (date : Date) (year month day : ℕ) → date.year ≡ pos year → date.month ≡ month → date.day ≡ day → ordinal date ≡ days_of_months year (month - 1) + day
ordinal_is date year month day y m d =
    rw (y, m, d) (ap (λ n. n + day) (same_days_of_months year (month - 1)))

pub ordinal_bound : (date : Date) → ordinal date ≤ 366
ordinal_bound date = omega (arith, day_of_year_bound date.year date.month date.day (civil date), days_in_year_bounds date.year)

pub civil_day_from_1 : (year month day : ℕ) → IsTrue (is_civil year month day) → 1 ≤ day
unfolding is_civil
civil_day_from_1 year month day h = grind (arith, nat_tests)

same_test : (a b x y : ℕ) → a + y ≡ x + b → nat_eq a b ≡ nat_eq x y
same_test a b x y h = grind (arith, nat_tests)

-- days of one year lie as far apart as their places in it
pub friday_by_places : (year month day here there : ℕ) (easter : ℕ × ℕ) → 1 ≤ day → 1 ≤ easter.1 → easter ≡ easter_of year → here ≡ days_of_months year (month - 1) + day → there ≡ days_of_months year (easter.0 - 1) + easter.1 → nat_eq (here + 2) there ≡ is_good_friday year month day
unfolding day_number
friday_by_places year month day here there easter first second is h t =
    subst (λ (e : ℕ × ℕ). nat_eq (here + 2) there ≡ (day_number year month day + 2 == day_number year e.0 e.1)) is
    (same_test (here + 2) there (day_number year month day + 2) (day_number year easter.0 easter.1) (omega arith))

pub monday_by_places : (year month day here there : ℕ) (easter : ℕ × ℕ) → 1 ≤ day → 1 ≤ easter.1 → easter ≡ easter_of year → here ≡ days_of_months year (month - 1) + day → there ≡ days_of_months year (easter.0 - 1) + easter.1 → nat_eq here (there + 1) ≡ is_easter_monday year month day
unfolding day_number
monday_by_places year month day here there easter first second is h t =
    subst (λ (e : ℕ × ℕ). nat_eq here (there + 1) ≡ (day_number year month day == day_number year e.0 e.1 + 1)) is
    (same_test here (there + 1) (day_number year month day) (day_number year easter.0 easter.1 + 1) (omega arith))
