-- The texts of times, and what they read as.
use Rattle.std.proofs.Common.{◌≡◌, ℕ, ◌/◌, ◌%◌, ◌≤◌, Bool, true, false, ◌&&◌, ◌==◌, Option, Some, None, List, [], ◌∷◌, ◌++◌, length, get_or, refl, sym, arith, IfSome}
use Rattle.std.proofs.lemmas.Bool.Decides.{nat_tests}
use Rattle.period_calendar.specs.Digits.{two_digits}
use Rattle.period_calendar.specs.MomentTexts.{two_digits_text}
use Rattle.period_calendar.specs.Times.{clock_time, time_of_parts, time_of_text}
use Rattle.period_calendar.specs.MomentTexts.{time_text}
use Rattle.period_calendar.proofs.DigitLemmas.{both_stand, two_digits_back, two_digits_forth}

-- a text of eight bytes by its places, and any other text
pub time_places_are : (text : List ℕ) → length text ≡ 8 → time_of_text text ≡ time_of_parts (get_or text 2 0 == 58 && get_or text 5 0 == 58) (two_digits (get_or text 0 0) (get_or text 1 0)) (two_digits (get_or text 3 0) (get_or text 4 0)) (two_digits (get_or text 6 0) (get_or text 7 0))
unfolding time_of_text
time_places_are (a ∷ b ∷ c ∷ d ∷ e ∷ f ∷ g ∷ h ∷ []) long = refl
time_places_are (a ∷ b ∷ c ∷ d ∷ e ∷ f ∷ g ∷ h ∷ i ∷ more) long = absurd (omega arith)
time_places_are (a ∷ b ∷ c ∷ d ∷ e ∷ f ∷ g ∷ []) long = absurd (omega arith)
time_places_are (a ∷ b ∷ c ∷ d ∷ e ∷ f ∷ []) long = absurd (omega arith)
time_places_are (a ∷ b ∷ c ∷ d ∷ e ∷ []) long = absurd (omega arith)
time_places_are (a ∷ b ∷ c ∷ d ∷ []) long = absurd (omega arith)
time_places_are (a ∷ b ∷ c ∷ []) long = absurd (omega arith)
time_places_are (a ∷ b ∷ []) long = absurd (omega arith)
time_places_are (a ∷ []) long = absurd (omega arith)
time_places_are [] long = absurd (omega arith)

pub time_of_other : (text : List ℕ) → (length text ≡ 8 → ⊥) → time_of_text text ≡ None
unfolding time_of_text
time_of_other (a ∷ b ∷ c ∷ d ∷ e ∷ f ∷ g ∷ h ∷ []) other = absurd (other refl)
time_of_other (a ∷ b ∷ c ∷ d ∷ e ∷ f ∷ g ∷ h ∷ i ∷ more) other = refl
time_of_other (a ∷ b ∷ c ∷ d ∷ e ∷ f ∷ g ∷ []) other = refl
time_of_other (a ∷ b ∷ c ∷ d ∷ e ∷ f ∷ []) other = refl
time_of_other (a ∷ b ∷ c ∷ d ∷ e ∷ []) other = refl
time_of_other (a ∷ b ∷ c ∷ d ∷ []) other = refl
time_of_other (a ∷ b ∷ c ∷ []) other = refl
time_of_other (a ∷ b ∷ []) other = refl
time_of_other (a ∷ []) other = refl
time_of_other [] other = refl

-- numbers that are all there, with their colons, and make a time
record AreTimeParts (colons : Bool) (hours minutes seconds : Option ℕ) (time : ℕ) : Type 0 where
  hour : ℕ
  minute : ℕ
  second : ℕ
  colons_stand : colons ≡ true
  hours_are : hours ≡ Some hour
  minutes_are : minutes ≡ Some minute
  seconds_are : seconds ≡ Some second
  time_is : clock_time hour minute second ≡ Some time

time_parts_back : (colons : Bool) (hours minutes seconds : Option ℕ) (time : ℕ) → time_of_parts colons hours minutes seconds ≡ Some time → AreTimeParts colons hours minutes seconds time
time_parts_back true (Some h) (Some m) (Some s) time is = record { hour = h; minute = m; second = s; colons_stand = refl; hours_are = refl; minutes_are = refl; seconds_are = refl; time_is = is }
time_parts_back true (Some h) (Some m) None time is = absurd (cc)
time_parts_back true (Some h) None seconds time is = absurd (cc)
time_parts_back true None minutes seconds time is = absurd (cc)
time_parts_back false hours minutes seconds time is = absurd (cc)

-- the hours, minutes and seconds of a time
record IsClock (hour minute second time : ℕ) : Type 0 where
  hour_is : hour ≡ time / 3600
  minute_is : minute ≡ time / 60 % 60
  second_is : second ≡ time % 60
  within : time ≤ 86400

clock_back : (hour minute second time : ℕ) → clock_time hour minute second ≡ Some time → IsClock hour minute second time
clock_back hour minute second time is = record { hour_is = grind (arith, nat_tests); minute_is = grind (arith, nat_tests); second_is = grind (arith, nat_tests); within = grind (arith, nat_tests) }

pub ruleset time_places = (time_places_are, time_of_other, nat_tests)

joined : (a b c d e f g h hour minute second : ℕ) → c ≡ 58 → f ≡ 58 → a ∷ b ∷ [] ≡ two_digits_text hour → d ∷ e ∷ [] ≡ two_digits_text minute → g ∷ h ∷ [] ≡ two_digits_text second → a ∷ b ∷ c ∷ d ∷ e ∷ f ∷ g ∷ h ∷ [] ≡ two_digits_text hour ++ 58 ∷ two_digits_text minute ++ 58 ∷ two_digits_text second
joined a b c d e f g h hour minute second p q r s t = cc

of_clock : (hour minute second time : ℕ) (text : List ℕ) → IsClock hour minute second time → text ≡ two_digits_text hour ++ 58 ∷ two_digits_text minute ++ 58 ∷ two_digits_text second → text ≡ time_text time
of_clock hour minute second time text clock is = rw (← clock.hour_is, ← clock.minute_is, ← clock.second_is) is

-- a text that reads as a time is its text, and the time is one of a day
pub time_text_of : (text : List ℕ) (time : ℕ) → time_of_text text ≡ Some time → (text ≡ time_text time) × (time ≤ 86400)
unfolding time_of_text
time_text_of (a ∷ b ∷ c ∷ d ∷ e ∷ f ∷ g ∷ h ∷ []) time is =
    let all = time_parts_back (c == 58 && f == 58) (two_digits a b) (two_digits d e) (two_digits g h) time is in
    let signs = both_stand c f 58 all.colons_stand in
    let clock = clock_back all.hour all.minute all.second time all.time_is in
    (of_clock all.hour all.minute all.second time (a ∷ b ∷ c ∷ d ∷ e ∷ f ∷ g ∷ h ∷ []) clock (joined a b c d e f g h all.hour all.minute all.second signs.0 signs.1 (two_digits_back a b all.hour all.hours_are) (two_digits_back d e all.minute all.minutes_are) (two_digits_back g h all.second all.seconds_are)), clock.within)
time_text_of (a ∷ b ∷ c ∷ d ∷ e ∷ f ∷ g ∷ h ∷ i ∷ more) time is = absurd (cc)
time_text_of (a ∷ b ∷ c ∷ d ∷ e ∷ f ∷ g ∷ []) time is = absurd (cc)
time_text_of (a ∷ b ∷ c ∷ d ∷ e ∷ f ∷ []) time is = absurd (cc)
time_text_of (a ∷ b ∷ c ∷ d ∷ e ∷ []) time is = absurd (cc)
time_text_of (a ∷ b ∷ c ∷ d ∷ []) time is = absurd (cc)
time_text_of (a ∷ b ∷ c ∷ []) time is = absurd (cc)
time_text_of (a ∷ b ∷ []) time is = absurd (cc)
time_text_of (a ∷ []) time is = absurd (cc)
time_text_of [] time is = absurd (cc)

pub IfSome-time_text : (text : List ℕ) (found : Option ℕ) → found ≡ time_of_text text → IfSome found (λ time. text ≡ time_text time)
IfSome-time_text text None is = tt
IfSome-time_text text (Some time) is = (time_text_of text time (sym is)).0

clock_forth : (time : ℕ) → time ≤ 86400 → clock_time (time / 3600) (time / 60 % 60) (time % 60) ≡ Some time
clock_forth time h = grind (arith, nat_tests)

-- and the text of a time reads as it
pub time_text_reads : (time : ℕ) → time ≤ 86400 → time_of_text (time_text time) ≡ Some time
unfolding time_of_text
time_text_reads time h =
    let hours = two_digits_forth (time / 3600) (omega arith) in
    let minutes = two_digits_forth (time / 60 % 60) (omega arith) in
    let seconds = two_digits_forth (time % 60) (omega arith) in
    rw (hours, minutes, seconds) (clock_forth time h)
