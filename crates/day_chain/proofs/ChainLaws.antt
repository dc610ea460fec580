-- What the statements of a chain of days that join say: nothing is lost.
use Rattle.std.proofs.Common.{◌≡◌, ◌∙◌, ℕ, zero, suc, ◌+◌, ◌<◌, ◌≤◌, Bool, true, false, List, [], ◌∷◌, ◌++◌, length, refl, sym, ap, subst, arith}
use Rattle.std.specs.Prelude.{if◌then◌else◌, nat_eq, sum_by}
use Rattle.std.specs.List.{range_with_len}
use Rattle.std.proofs.lemmas.List.Sums.{sum_by-cons}
use Rattle.std.proofs.lemmas.Bool.{eq-eqb, eqb-true, false≢true}
use Rattle.batch_records.specs.DayRecord.{Day}
use Rattle.commit_journal.specs.Line.{History}
use Rattle.machine.specs.Legal.{is_complete}
use Rattle.machine.specs.Records.Setup.{account_numbers, opening}
use Rattle.machine.specs.Telling.Balances.{credited, debited}
use Rattle.machine.specs.Laws.{IsConserved, IsConservedThroughout}
use Rattle.machine.specs.Orders.Order.{plain}
use Rattle.settlement_laws.proofs.Balances.CoveredMoves.{never_covered}
use Rattle.settlement_laws.proofs.Base.Numbers.{sum_add, sum_nothing}
use Rattle.day_chain.specs.Chains.{AllEarlier, AllJoin, AllOf, AllSettled, all_days, AreByYear, AreEven, AreYears, column, columns, first_openings, IsEven, IsSettled, Joins, last_column, NothingIsLost, total}
use Rattle.day_chain.specs.DayEnds.{carried, closing, is_technical_account, set_aside}
use Rattle.day_chain.specs.Statements.{by_year, closing_of, first_opening, over, sums_of, with_day, year_of}
use Rattle.day_chain.proofs.JoinFacts.{same_count}
use Rattle.day_chain.proofs.NextFacts.{is_small}

-- ---- sums over ranges

sum_in : (f g : ℕ → ℕ) (s n : ℕ) → ((a : ℕ) → s ≤ a → a < s + n → f a ≡ g a) → sum_by f (range_with_len s n) ≡ sum_by g (range_with_len s n)
sum_in f g s zero h = refl
sum_in f g s (suc n) h =
    sum_by-cons f s (range_with_len (s + 1) n) ∙ (λ i. h s (omega arith) (omega arith) i + sum_in f g (s + 1) n (λ a low high. h a (omega arith) (omega arith)) i) ∙ sym (sum_by-cons g s (range_with_len (s + 1) n))

-- ---- a day

-- what an account holds at the end is set aside, or carried on
in_two : (b : Bool) (x : ℕ) → (if b then x else 0) + (if b then 0 else x) ≡ x
in_two true x = omega arith
in_two false x = omega arith

aside_and_carried : (day : Day) (a : ℕ) → set_aside day a + carried day a ≡ closing day a
aside_and_carried day a = in_two (is_technical_account day a) (closing day a)

-- no balance is cut off at 0
exact : (day : Day) → IsSettled day → (a : ℕ) → opening day a + credited (plain day) a ≡ debited (plain day) a + (set_aside day a + carried day a)
exact day settled a =
    let covered : debited (plain day) a ≤ opening day a + credited (plain day) a = never_covered day (plain day) settled.laws.never_below_zero a in
    let parts : set_aside day a + carried day a ≡ closing day a = aside_and_carried day a in
    let held : closing day a + debited (plain day) a ≡ opening day a + credited (plain day) a = omega arith in
    omega arith

-- ---- the days of one year, of which the latest stands first

next_opening : (day last : Day) → Joins last day → (a : ℕ) → 1 ≤ a → a ≤ length day.accounts → opening day a ≡ carried last a
next_opening day last j a low high = j.openings a low high

pub count_is : (day last : Day) → Joins last day → length day.accounts ≡ length last.accounts
count_is day last j = same_count last.accounts day.accounts j.accounts

-- what came in is what went out, was set aside, and is carried on
telescope : (day : Day) (days : List Day) → AllJoin (day ∷ days) → AllSettled (day ∷ days) → (a : ℕ) → 1 ≤ a → a ≤ length day.accounts →
    first_opening (day ∷ days) a + over (λ d. credited (plain d) a) (day ∷ days) ≡ (over (λ d. debited (plain d) a) (day ∷ days) + over (λ d. set_aside d a) (day ∷ days)) + carried day a
telescope day [] joined settled a low high = let e = exact day settled.0 a in omega arith
telescope day (last ∷ days) joined settled a low high =
    let count = count_is day last joined.0 in
    let before = telescope last days joined.1 settled.1 a low (omega (arith, count, high)) in
    let opens = next_opening day last joined.0 a low high in
    let e = exact day settled.0 a in
    omega arith

-- so a statement closes with what is carried on
closes : (day : Day) (days : List Day) → AllJoin (day ∷ days) → AllSettled (day ∷ days) → (a : ℕ) → 1 ≤ a → a ≤ length day.accounts → closing_of (sums_of (day ∷ days) a) ≡ carried day a
unfolding sums_of
closes day days joined settled a low high = let t = telescope day days joined settled a low high in omega arith

even : (day : Day) (days : List Day) → AllJoin (day ∷ days) → AllSettled (day ∷ days) → (a : ℕ) → 1 ≤ a → a ≤ length day.accounts → IsEven (sums_of (day ∷ days) a)
unfolding sums_of
even day days joined settled a low high = let t = telescope day days joined settled a low high in omega arith

-- ---- the days by their years

again-with : (day : Day) (years : List (List Day)) → all_days (with_day day years) ≡ day ∷ all_days years
again-with day [] = refl
again-with day (days ∷ years) = go (nat_eq (year_of days) day.date.year)
  where
    go : (b : Bool) → all_days (if b then (day ∷ days) ∷ years else (day ∷ []) ∷ days ∷ years) ≡ day ∷ (days ++ all_days years)
    go true = refl
    go false = refl

pub again : (told : List Day) → all_days (by_year told) ≡ told
unfolding by_year
again [] = refl
again (day ∷ told) = again-with day (by_year told) ∙ ap (λ days. day ∷ days) (again told)

-- no year is without a day
abbrev pub AreThere : List (List Day) → Type 0
AreThere [] = Unit {0}
AreThere ([] ∷ years) = ⊥
AreThere ((day ∷ days) ∷ years) = AreThere years

there-with : (day : Day) (years : List (List Day)) → AreThere years → AreThere (with_day day years)
there-with day [] h = tt
there-with day ([] ∷ years) h = absurd h
there-with day ((last ∷ days) ∷ years) h = go (nat_eq last.date.year day.date.year)
  where
    go : (b : Bool) → AreThere (if b then (day ∷ last ∷ days) ∷ years else (day ∷ []) ∷ (last ∷ days) ∷ years)
    go true = h
    go false = h

pub all_there : (told : List Day) → AreThere (by_year told)
unfolding by_year
all_there [] = tt
all_there (day ∷ told) = there-with day (by_year told) (all_there told)

-- parts of a chain are chains
join_parts : (xs ys : List Day) → AllJoin (xs ++ ys) → AllJoin xs × AllJoin ys
join_parts [] ys h = (tt, h)
join_parts (day ∷ []) [] h = (tt, tt)
join_parts (day ∷ []) (last ∷ ys) h = (tt, h.1)
join_parts (day ∷ last ∷ xs) ys h = let r = join_parts (last ∷ xs) ys h.1 in ((h.0, r.0), r.1)

pub settled_parts : (xs ys : List Day) → AllSettled (xs ++ ys) → AllSettled xs × AllSettled ys
settled_parts [] ys h = (tt, h)
settled_parts (day ∷ xs) ys h = let r = settled_parts xs ys h.1 in ((h.0, r.0), r.1)

evens : (years : List (List Day)) → AreThere years → AllJoin (all_days years) → AllSettled (all_days years) → AreEven years
evens [] there joined settled = tt
evens ([] ∷ years) there joined settled = absurd there
evens ((day ∷ days) ∷ years) there joined settled =
    let j = join_parts (day ∷ days) (all_days years) joined in
    let s = settled_parts (day ∷ days) (all_days years) settled in
    (λ a low high. even day days j.0 s.0 a low high, evens years there j.1 s.1)

pub all_even : (told : List Day) → AllJoin told → AllSettled told → AreEven (by_year told)
all_even told joined settled = evens (by_year told) (all_there told) (subst AllJoin (sym (again told)) joined) (subst AllSettled (sym (again told)) settled)

-- ---- over all accounts

last_line : (day : Day) (J : History) → is_complete J ≡ true → IsConservedThroughout day J → IsConserved day J
last_line day [] e h = absurd (false≢true e)
last_line day (l ∷ J) e h = h.1

conserved_day : (day : Day) → IsSettled day → total opening day ≡ total set_aside day + total carried day
conserved_day day settled =
    let held : total closing day ≡ total opening day = last_line day (plain day) settled.complete settled.laws.conserved in
    let split : sum_by (λ a. set_aside day a + carried day a) (account_numbers day) ≡ total set_aside day + total carried day = sum_add (set_aside day) (carried day) (account_numbers day) in
    let same : sum_by (λ a. set_aside day a + carried day a) (account_numbers day) ≡ total closing day = sum_in (λ a. set_aside day a + carried day a) (closing day) 1 (length day.accounts) (λ a low high. aside_and_carried day a) in
    omega arith

-- what all accounts open with is what was carried to them
all_carried : (day last : Day) → Joins last day → total opening day ≡ total carried last
all_carried day last j =
    sum_in (opening day) (carried last) 1 (length day.accounts) (λ a low high. next_opening day last j a low (omega (arith, high)))
    ∙ ap (λ n. sum_by (carried last) (range_with_len 1 n)) (count_is day last j)

kept_on : (day : Day) (days : List Day) → AllJoin (day ∷ days) → AllSettled (day ∷ days) → first_openings (day ∷ days) ≡ over (total set_aside) (day ∷ days) + total carried day
kept_on day [] joined settled = let e = conserved_day day settled.0 in omega arith
kept_on day (last ∷ days) joined settled =
    let before = kept_on last days joined.1 settled.1 in
    let e = conserved_day day settled.0 in
    let opens = all_carried day last joined.0 in
    omega arith

-- ---- all columns of a kind

abbrev AllCount : ℕ → List Day → Type 0
AllCount n [] = Unit {0}
AllCount n (day ∷ days) = (length day.accounts ≡ n) × AllCount n days

counts : (day : Day) (days : List Day) → AllJoin (day ∷ days) → AllCount (length day.accounts) (day ∷ days)
counts day [] joined = (refl, tt)
counts day (last ∷ days) joined = (refl, subst (λ n. AllCount n (last ∷ days)) (sym (count_is day last joined.0)) (counts last days joined.1))

asides : (n : ℕ) (days : List Day) → AllCount n days → sum_by (λ a. over (λ d. set_aside d a) days) (range_with_len 1 n) ≡ over (total set_aside) days
asides n [] c = sum_nothing (range_with_len 1 n)
asides n (day ∷ days) c =
    sum_add (λ a. over (λ d. set_aside d a) days) (set_aside day) (range_with_len 1 n)
    ∙ (λ i. asides n days c.1 i + sum_by (set_aside day) (range_with_len 1 (sym c.0 i)))

over-append : (f : Day → ℕ) (xs ys : List Day) → over f (xs ++ ys) ≡ over f xs + over f ys
over-append f [] ys = omega arith
over-append f (day ∷ xs) ys = let e = over-append f xs ys in omega arith

column_is : (day : Day) (days : List Day) → AllJoin (day ∷ days) → column (λ s. s.aside) (day ∷ days) ≡ over (total set_aside) (day ∷ days)
unfolding sums_of
column_is day days joined = asides (length day.accounts) (day ∷ days) (counts day days joined)

columns_are : (years : List (List Day)) → AreThere years → AllJoin (all_days years) → columns (λ s. s.aside) years ≡ over (total set_aside) (all_days years)
columns_are [] there joined = refl
columns_are ([] ∷ years) there joined = absurd there
columns_are ((day ∷ days) ∷ years) there joined =
    let j = join_parts (day ∷ days) (all_days years) joined in
    let here = column_is day days j.0 in
    let rest = columns_are years there j.1 in
    let both = over-append (total set_aside) (day ∷ days) (all_days years) in
    omega arith

-- ---- the last year

latest-with : (day : Day) (years : List (List Day)) → (days : List Day) × (rest : List (List Day)) × (with_day day years ≡ (day ∷ days) ∷ rest)
latest-with day [] = ([], [], refl)
latest-with day (days ∷ years) = go (nat_eq (year_of days) day.date.year)
  where
    go : (b : Bool) → (ds : List Day) × (rest : List (List Day)) × ((if b then (day ∷ days) ∷ years else (day ∷ []) ∷ days ∷ years) ≡ (day ∷ ds) ∷ rest)
    go true = (days, years, refl)
    go false = ([], days ∷ years, refl)

-- ---- the years

-- a later day is of no earlier year
later_year : (day last : Day) → Joins last day → last.date.year ≤ day.date.year
later_year day last j = let s = is_small day.date j.next.opens in let l = j.next.later in omega (arith, s.0, s.1, l)

earlier_more : (y z : ℕ) (years : List (List Day)) → y ≤ z → AllEarlier y years → AllEarlier z years
earlier_more y z [] le h = tt
earlier_more y z (days ∷ years) le h = (omega (arith, le, h.0), earlier_more y z years le h.1)

more_years : (day : Day) (days : List Day) (years : List (List Day)) → year_of days ≤ day.date.year → AreYears (days ∷ years) → AreYears (with_day day (days ∷ years))
more_years day days years le h = go (nat_eq (year_of days) day.date.year) refl
  where
    go : (b : Bool) → nat_eq (year_of days) day.date.year ≡ b → AreYears (if b then (day ∷ days) ∷ years else (day ∷ []) ∷ days ∷ years)
    go true e =
        let same = eqb-true (year_of days) day.date.year e in
        (((refl, subst (λ y. AllOf y days) same h.0.0), subst (λ y. AllEarlier y years) same h.0.1), h.1)
    go false e =
        let ne : year_of days ≡ day.date.year → ⊥ = λ q. false≢true (sym e ∙ eq-eqb (year_of days) day.date.year q) in
        (((refl, tt), (omega (arith, le, ne), earlier_more (year_of days) day.date.year years le h.0.1)), h)

years_apart : (told : List Day) → AllJoin told → AreYears (by_year told)
unfolding by_year
years_apart [] joined = tt
years_apart (day ∷ []) joined = (((refl, tt), tt), tt)
years_apart (day ∷ last ∷ told) joined =
    let l = latest-with last (by_year told) in
    let before = years_apart (last ∷ told) joined.1 in
    subst (λ (ys : List (List Day)). AreYears (with_day day ys)) (sym l.2) (more_years day (last ∷ l.0) l.1 (later_year day last joined.0) (subst AreYears l.2 before))

pub are_by_year : (told : List Day) → AllJoin told → AreByYear told (by_year told)
are_by_year told joined = record { together = again told; apart = years_apart told joined }

closings : (day : Day) (days : List Day) → AllJoin (day ∷ days) → AllSettled (day ∷ days) → column closing_of (day ∷ days) ≡ total carried day
closings day days joined settled = sum_in (λ a. closing_of (sums_of (day ∷ days) a)) (carried day) 1 (length day.accounts) (λ a low high. closes day days joined settled a low (omega (arith, high)))

last_closes : (day : Day) (told : List Day) → AllJoin (day ∷ told) → AllSettled (day ∷ told) → last_column closing_of (by_year (day ∷ told)) ≡ total carried day
unfolding by_year
last_closes day told joined settled =
    let l = latest-with day (by_year told) in
    let whole : (day ∷ l.0) ++ all_days l.1 ≡ day ∷ told = ap all_days (sym l.2) ∙ again (day ∷ told) in
    let j = join_parts (day ∷ l.0) (all_days l.1) (subst AllJoin (sym whole) joined) in
    let s = settled_parts (day ∷ l.0) (all_days l.1) (subst AllSettled (sym whole) settled) in
    ap (last_column closing_of) l.2 ∙ closings day l.0 j.0 s.0

pub nothing_is_lost : (told : List Day) → AllJoin told → AllSettled told → NothingIsLost told
unfolding by_year
nothing_is_lost [] joined settled = refl
nothing_is_lost (day ∷ told) joined settled =
    let kept = kept_on day told joined settled in
    let last = last_closes day told joined settled in
    let asides : columns (λ s. s.aside) (by_year (day ∷ told)) ≡ over (total set_aside) (day ∷ told) = columns_are (by_year (day ∷ told)) (all_there (day ∷ told)) (subst AllJoin (sym (again (day ∷ told))) joined) ∙ ap (over (total set_aside)) (again (day ∷ told)) in
    omega arith
