-- The texts of dates, and what they read as.
use Rattle.std.proofs.Common.{◌≡◌, ℕ, ◌/◌, ◌<◌, Bool, true, false, ◌&&◌, ◌==◌, Option, Some, None, Ok, Err, if◌then◌else◌, not, subst, ap, List, [], ◌∷◌, ◌++◌, length, get_or, refl, arith}
use Rattle.std.proofs.lemmas.Bool.Decides.{nat_tests}
use Rattle.period_calendar.specs.declared.date.DateFault.TheVariants.{NoSuchDay, Years, Closed}
use Rattle.period_calendar.specs.Calendar.{CivilDay, is_civil, is_known_year}
use Rattle.period_calendar.specs.Closing.{is_closing, is_open}
use Rattle.period_calendar.specs.Digits.{two_digits, four_digits}
use Rattle.period_calendar.specs.MomentTexts.{two_digits_text}
use Rattle.period_calendar.specs.Dates.{dashed_parts, date_parts, day_or_fault, date_of_text}
use Rattle.period_calendar.specs.MomentTexts.{date_text}
use Rattle.period_calendar.proofs.DigitLemmas.{both_stand, two_digits_back, four_digits_back, two_digits_forth, four_digits_forth}

-- a text of ten bytes by its places, and any other text
pub date_parts_places : (text : List ℕ) → length text ≡ 10 → date_parts text ≡ dashed_parts (get_or text 4 0 == 45 && get_or text 7 0 == 45) (four_digits (get_or text 0 0) (get_or text 1 0) (get_or text 2 0) (get_or text 3 0)) (two_digits (get_or text 5 0) (get_or text 6 0)) (two_digits (get_or text 8 0) (get_or text 9 0))
unfolding date_parts
date_parts_places (a ∷ b ∷ c ∷ d ∷ e ∷ f ∷ g ∷ h ∷ i ∷ j ∷ []) long = refl
date_parts_places (a ∷ b ∷ c ∷ d ∷ e ∷ f ∷ g ∷ h ∷ i ∷ j ∷ k ∷ more) long = absurd (omega arith)
date_parts_places (a ∷ b ∷ c ∷ d ∷ e ∷ f ∷ g ∷ h ∷ i ∷ []) long = absurd (omega arith)
date_parts_places (a ∷ b ∷ c ∷ d ∷ e ∷ f ∷ g ∷ h ∷ []) long = absurd (omega arith)
date_parts_places (a ∷ b ∷ c ∷ d ∷ e ∷ f ∷ g ∷ []) long = absurd (omega arith)
date_parts_places (a ∷ b ∷ c ∷ d ∷ e ∷ f ∷ []) long = absurd (omega arith)
date_parts_places (a ∷ b ∷ c ∷ d ∷ e ∷ []) long = absurd (omega arith)
date_parts_places (a ∷ b ∷ c ∷ d ∷ []) long = absurd (omega arith)
date_parts_places (a ∷ b ∷ c ∷ []) long = absurd (omega arith)
date_parts_places (a ∷ b ∷ []) long = absurd (omega arith)
date_parts_places (a ∷ []) long = absurd (omega arith)
date_parts_places [] long = absurd (omega arith)

pub date_parts_other : (text : List ℕ) → (length text ≡ 10 → ⊥) → date_parts text ≡ None
unfolding date_parts
date_parts_other (a ∷ b ∷ c ∷ d ∷ e ∷ f ∷ g ∷ h ∷ i ∷ j ∷ []) other = absurd (other refl)
date_parts_other (a ∷ b ∷ c ∷ d ∷ e ∷ f ∷ g ∷ h ∷ i ∷ j ∷ k ∷ more) other = refl
date_parts_other (a ∷ b ∷ c ∷ d ∷ e ∷ f ∷ g ∷ h ∷ i ∷ []) other = refl
date_parts_other (a ∷ b ∷ c ∷ d ∷ e ∷ f ∷ g ∷ h ∷ []) other = refl
date_parts_other (a ∷ b ∷ c ∷ d ∷ e ∷ f ∷ g ∷ []) other = refl
date_parts_other (a ∷ b ∷ c ∷ d ∷ e ∷ f ∷ []) other = refl
date_parts_other (a ∷ b ∷ c ∷ d ∷ e ∷ []) other = refl
date_parts_other (a ∷ b ∷ c ∷ d ∷ []) other = refl
date_parts_other (a ∷ b ∷ c ∷ []) other = refl
date_parts_other (a ∷ b ∷ []) other = refl
date_parts_other (a ∷ []) other = refl
date_parts_other [] other = refl

pub ruleset date_places = (date_parts_places, date_parts_other, nat_tests)

-- numbers that are all there, with their dashes
record AreParts (dashes : Bool) (year month day : Option ℕ) (found : ℕ × ℕ × ℕ) : Type 0 where
  dashes_stand : dashes ≡ true
  year_is : year ≡ Some found.0
  month_is : month ≡ Some found.1
  day_is : day ≡ Some found.2

parts_back : (dashes : Bool) (year month day : Option ℕ) (found : ℕ × ℕ × ℕ) → dashed_parts dashes year month day ≡ Some found → AreParts dashes year month day found
parts_back true (Some y) (Some m) (Some d) found h = record { dashes_stand = refl; year_is = cc; month_is = cc; day_is = cc }
parts_back true (Some y) (Some m) None found h = absurd (cc)
parts_back true (Some y) None day found h = absurd (cc)
parts_back true None month day found h = absurd (cc)
parts_back false year month day found h = absurd (cc)

joined : (a b c d e f g h i j y m n : ℕ) → e ≡ 45 → h ≡ 45 → a ∷ b ∷ c ∷ d ∷ [] ≡ two_digits_text (y / 100) ++ two_digits_text y → f ∷ g ∷ [] ≡ two_digits_text m → i ∷ j ∷ [] ≡ two_digits_text n → a ∷ b ∷ c ∷ d ∷ e ∷ f ∷ g ∷ h ∷ i ∷ j ∷ [] ≡ date_text (record { year = y; month = m; day = n })
joined a b c d e f g h i j y m n p q r s t = cc

-- a text that reads as three numbers is their text
pub date_parts_text : (text : List ℕ) (found : ℕ × ℕ × ℕ) → date_parts text ≡ Some found → text ≡ date_text (record { year = found.0; month = found.1; day = found.2 })
unfolding date_parts
date_parts_text (a ∷ b ∷ c ∷ d ∷ e ∷ f ∷ g ∷ h ∷ i ∷ j ∷ []) found is =
    let all = parts_back (e == 45 && h == 45) (four_digits a b c d) (two_digits f g) (two_digits i j) found is in
    let signs = both_stand e h 45 all.dashes_stand in
    joined a b c d e f g h i j found.0 found.1 found.2 signs.0 signs.1 (four_digits_back a b c d found.0 all.year_is) (two_digits_back f g found.1 all.month_is) (two_digits_back i j found.2 all.day_is)
date_parts_text (a ∷ b ∷ c ∷ d ∷ e ∷ f ∷ g ∷ h ∷ i ∷ j ∷ k ∷ more) found is = absurd (cc)
date_parts_text (a ∷ b ∷ c ∷ d ∷ e ∷ f ∷ g ∷ h ∷ i ∷ []) found is = absurd (cc)
date_parts_text (a ∷ b ∷ c ∷ d ∷ e ∷ f ∷ g ∷ h ∷ []) found is = absurd (cc)
date_parts_text (a ∷ b ∷ c ∷ d ∷ e ∷ f ∷ g ∷ []) found is = absurd (cc)
date_parts_text (a ∷ b ∷ c ∷ d ∷ e ∷ f ∷ []) found is = absurd (cc)
date_parts_text (a ∷ b ∷ c ∷ d ∷ e ∷ []) found is = absurd (cc)
date_parts_text (a ∷ b ∷ c ∷ d ∷ []) found is = absurd (cc)
date_parts_text (a ∷ b ∷ c ∷ []) found is = absurd (cc)
date_parts_text (a ∷ b ∷ []) found is = absurd (cc)
date_parts_text (a ∷ []) found is = absurd (cc)
date_parts_text [] found is = absurd (cc)

-- and the text of three numbers reads as them
date_text_parts : (y m d : ℕ) → y < 10000 → m < 100 → d < 100 → date_parts (date_text (record { year = y; month = m; day = d })) ≡ Some (y, m, d)
unfolding date_parts
date_text_parts y m d year month day =
    let a = four_digits_forth y year in
    let b = two_digits_forth m month in
    let c = two_digits_forth d day in
    rw (a, b, c)

open_day_is : (y m d : ℕ) → is_open y m d ≡ true → day_or_fault (Some (y, m, d)) ≡ Ok (record { year = y; month = m; day = d })
unfolding is_open
open_day_is y m d h = grind (arith, nat_tests)

open_small : (y m d : ℕ) → is_open y m d ≡ true → (y < 10000) × (m < 100) × (d < 100)
unfolding is_open is_civil
open_small y m d h = grind (arith, nat_tests)

-- the text of an open day reads as the day
pub date_text_reads : (date : CivilDay) → is_open date.year date.month date.day ≡ true → date_of_text (date_text date) ≡ Ok date
unfolding date_of_text
date_text_reads date h =
    let small = open_small date.year date.month date.day h in
    rw (date_text_parts date.year date.month date.day small.0 small.1 small.2) (open_day_is date.year date.month date.day h)

chosen : (civil known closing : Bool) (day date : CivilDay) → (if not civil then Err NoSuchDay else (if not known then Err Years else (if closing then Err Closed else Ok day))) ≡ Ok date → (day ≡ date) × ((civil && known && not closing) ≡ true)
chosen true true false day date is = (cc, refl)
chosen true true true day date is = absurd (cc)
chosen true false closing day date is = absurd (cc)
chosen false known closing day date is = absurd (cc)

open_of_parts : (parts : Option (ℕ × ℕ × ℕ)) (date : CivilDay) → day_or_fault parts ≡ Ok date → (parts ≡ Some (date.year, date.month, date.day)) × (is_open date.year date.month date.day ≡ true)
unfolding is_open
open_of_parts None date is = absurd (cc)
open_of_parts (Some (year, month, day)) date is =
    let both = chosen (is_civil year month day) (is_known_year year) (is_closing year month day) (record { year = year; month = month; day = day }) date is in
    (ap (λ (d : CivilDay). Some (d.year, d.month, d.day)) both.0, subst (λ (d : CivilDay). is_open d.year d.month d.day ≡ true) both.0 both.1)

-- and a text that reads as a day is its text, and the day is open
pub date_text_of : (text : List ℕ) (date : CivilDay) → date_of_text text ≡ Ok date → (text ≡ date_text date) × (is_open date.year date.month date.day ≡ true)
unfolding date_of_text
date_text_of text date is =
    let found = open_of_parts (date_parts text) date is in
    (date_parts_text text (date.year, date.month, date.day) found.0, found.1)
