-- The test whether one open day follows another decides it.
use Rattle.std.proofs.Common.{◌≡◌, ◌∙◌, ℕ, ◌+◌, ◌-◌, ◌*◌, ◌/◌, ◌%◌, ◌<◌, ◌⊎◌, inl, inr, Bool, true, false, not, ◌&&◌, refl, sym, ap, subst, arith, IsTrue}
use Rattle.std.specs.Prelude.{nat_eq, nat_lt}
use Rattle.std.proofs.lemmas.Bool.{and_parts, and_from, eq-eqb, eqb-true, false≢true, lt-ltb, ltb-true}
use Rattle.std.proofs.lemmas.Bool.Decides.{nat_tests}
use Rattle.settlement_laws.proofs.Base.Sums.{all-at, all-from}
use Rattle.period_calendar.specs.Calendar.{CivilDay, is_civil}
use Rattle.period_calendar.specs.Closing.{is_open}
use Rattle.period_calendar.specs.NextDay.{digits_of, IsLastOpen, IsNextOpen, IsOpen}
use Rattle.day_chain.specs.NextDay.{is_next, is_open_at}

small : (day : CivilDay) → IsTrue (is_civil day.year day.month day.day) → (day.month < 100) × (day.day < 100)
unfolding is_civil
small day h = (grind (arith, nat_tests), grind (arith, nat_tests))

pub is_small : (day : CivilDay) → IsOpen day → (day.month < 100) × (day.day < 100)
unfolding is_open
is_small day h = small day (grind (arith, nat_tests))

same_day : (y m d y' m' d' : ℕ) → y ≡ y' → m ≡ m' → d ≡ d' → is_open y m d ≡ is_open y' m' d'
same_day y m d y' m' d' p q r = λ i. is_open (p i) (q i) (r i)

-- the digits of an open day spell it
spelled : (day : CivilDay) → IsOpen day → is_open_at (digits_of day) ≡ true
spelled day h =
    let s = is_small day h in
    let low : digits_of day % 100 ≡ day.day = omega (arith, s.0, s.1) in
    let high : digits_of day / 100 ≡ 100 * day.year + day.month = omega (arith, s.0, s.1) in
    let month : digits_of day / 100 % 100 ≡ day.month = omega (arith, s.0, high) in
    let year : digits_of day / 100 / 100 ≡ day.year = omega (arith, s.0, high) in
    same_day _ _ _ _ _ _ year month low ∙ h

-- the day that digits spell
day_at : ℕ → CivilDay
day_at n = record { year = n / 100 / 100; month = n / 100 % 100; day = n % 100 }

pub next_is_open : (day next : CivilDay) → is_next day next ≡ true → IsNextOpen day next
unfolding is_next
next_is_open day next h =
    let a = and_parts (is_open next.year next.month next.day && nat_lt (digits_of day) (digits_of next)) _ h in
    let b = and_parts (is_open next.year next.month next.day) (nat_lt (digits_of day) (digits_of next)) a.0 in
    let later : digits_of day < digits_of next = ltb-true (digits_of day) (digits_of next) b.1 in
    record {
      opens = b.0;
      later = later;
      first = λ other o after before.
          let none : not (is_open_at (digits_of other)) ≡ true = all-at (λ n. not (is_open_at n)) (digits_of day + 1) (digits_of next - digits_of day - 1) (digits_of other) a.1 (omega (arith, after)) (omega (arith, after, before)) in
          false≢true (ap not (sym (spelled other o)) ∙ none);
    }

pub is_next_of : (day next : CivilDay) → IsNextOpen day next → is_next day next ≡ true
unfolding is_next day_at
is_next_of day next n =
    and_from _ _ (and_from _ _ n.opens (lt-ltb (digits_of day) (digits_of next) n.later))
    (all-from (λ k. not (is_open_at k)) (digits_of day + 1) (digits_of next - digits_of day - 1) (λ k low high. closed k (is_open_at k) refl (omega (arith, low)) (omega (arith, n.later, low, high))))
  where
    digits : (k : ℕ) → digits_of (day_at k) ≡ k
    digits k = omega arith

    closed : (k : ℕ) (b : Bool) → is_open_at k ≡ b → digits_of day < k → k < digits_of next → not b ≡ true
    closed k false e low high = refl
    closed k true e low high = absurd (n.first (day_at k) e (omega (arith, digits k, low)) (omega (arith, digits k, high)))

order : (a b : ℕ) → (a < b) ⊎ ((a ≡ b) ⊎ (b < a))
order a b = grind (arith, nat_tests)

-- only one open day is the next
pub one_next : (day next other : CivilDay) → IsNextOpen day next → IsNextOpen day other → next ≡ other
one_next day next other n o = go (order (digits_of next) (digits_of other))
  where
    go : (digits_of next < digits_of other) ⊎ ((digits_of next ≡ digits_of other) ⊎ (digits_of other < digits_of next)) → next ≡ other
    go (inl l) = absurd (o.first next n.opens n.later l)
    go (inr (inr l)) = absurd (n.first other o.opens o.later l)
    go (inr (inl same)) =
        let s = is_small next n.opens in
        let t = is_small other o.opens in
        let year : next.year ≡ other.year = omega (arith, s.0, s.1, t.0, t.1, same) in
        let month : next.month ≡ other.month = omega (arith, s.0, s.1, t.0, t.1, same) in
        let day : next.day ≡ other.day = omega (arith, s.0, s.1, t.0, t.1, same) in
        λ i. record { year = year i; month = month i; day = day i }

pub no_next : (day later : CivilDay) → IsLastOpen day → false ≡ is_next day later
no_next day later last = go (is_next day later) refl
  where
    go : (b : Bool) → is_next day later ≡ b → false ≡ is_next day later
    go false e = sym e
    go true e = let n = next_is_open day later e in absurd (last later n.opens n.later)

-- the next open day is the other one exactly where they are the same
pub same_next : (day next later : CivilDay) (b : Bool) → IsNextOpen day next → (b ≡ true → next ≡ later) → (b ≡ false → next ≡ later → ⊥) → b ≡ is_next day later
same_next day next later true n same differ = sym (subst (λ d. is_next day d ≡ true) (same refl) (is_next_of day next n))
same_next day next later false n same differ = go (is_next day later) refl
  where
    go : (b : Bool) → is_next day later ≡ b → false ≡ is_next day later
    go false e = sym e
    go true e = absurd (differ refl (one_next day next later n (next_is_open day later e)))

-- ---- that two days are the same

abbrev pub tested : CivilDay → CivilDay → Bool
tested day other = nat_eq day.year other.year && (nat_eq day.month other.month && nat_eq day.day other.day)

pub is_same : (day other : CivilDay) (b : Bool) → b ≡ tested day other → b ≡ true → day ≡ other
is_same day other b e h =
    let a = and_parts (nat_eq day.year other.year) (nat_eq day.month other.month && nat_eq day.day other.day) (sym e ∙ h) in
    let m = and_parts (nat_eq day.month other.month) (nat_eq day.day other.day) a.1 in
    let year = eqb-true day.year other.year a.0 in
    let month = eqb-true day.month other.month m.0 in
    let last = eqb-true day.day other.day m.1 in
    λ i. record { year = year i; month = month i; day = last i }

pub isnt_same : (day other : CivilDay) (b : Bool) → b ≡ tested day other → b ≡ false → day ≡ other → ⊥
isnt_same day other b e h same =
    let all : tested day day ≡ true = and_from _ _ (eq-eqb day.year day.year refl) (and_from _ _ (eq-eqb day.month day.month refl) (eq-eqb day.day day.day refl)) in
    false≢true (sym h ∙ e ∙ ap (tested day) (sym same) ∙ all)
