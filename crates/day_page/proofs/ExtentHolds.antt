-- What accounts hold, by their extents.
use Rattle.std.proofs.Common.{◌≡◌, ◌∙◌, ℕ, zero, suc, ◌+◌, ◌-◌, ◌*◌, ◌^◌, ◌≤◌, ◌<◌, inl, inr, true, List, [], ◌∷◌, length, get_or, Option, Some, None, map, ap, sym, subst, refl, arith}
use Rattle.std.specs.Prelude.{slice_get}
use Rattle.std.specs.List.{range_with_len}
use Rattle.std.specs.Option.{option_map_or}
use Rattle.std.proofs.lemmas.Bool.{cases_lt}
use Rattle.std.proofs.lemmas.List.Sums.{sum_by-cons}
use Rattle.batch_records.specs.DayRecord.{Day}
use Rattle.batch_records.specs.Sound.{is_sound}
use Rattle.commit_journal.specs.Line.{History}
use Rattle.machine.specs.Words.{numbered}
use Rattle.machine.specs.Legal.{IsLegal}
use Rattle.machine.specs.Telling.Balances.{balance}
use Rattle.day_page.specs.declared.extents.Extent.{Extent}
use Rattle.day_page.specs.Courses.{total}
use Rattle.day_page.specs.Extents.{AreAccounts, extent, extents, held_in}
use Rattle.day_page.proofs.Totals.{total_small}

-- ---- an item of a row for each number

mapped_get : (f : ℕ → Extent) (s n i : ℕ) → i < n → slice_get (map f (range_with_len s n)) i ≡ Some (f (s + i))
mapped_get f s zero i l = absurd (omega (arith, l))
mapped_get f s (suc n) zero l = let e : s ≡ s + 0 = omega arith in ap (λ k. Some (f k)) e
mapped_get f s (suc n) (suc i) l = mapped_get f (s + 1) n i (omega (arith, l)) ∙ (let e : s + 1 + i ≡ s + suc i = omega arith in ap (λ k. Some (f k)) e)

mapped_past : (f : ℕ → Extent) (s n i : ℕ) → n ≤ i → slice_get (map f (range_with_len s n)) i ≡ None
mapped_past f s zero i l = refl
mapped_past f s (suc n) zero l = absurd (omega (arith, l))
mapped_past f s (suc n) (suc i) l = mapped_past f (s + 1) n i (omega (arith, l))

abbrev held_of : Option Extent → ℕ
held_of o = option_map_or (λ x. x.held) o 0

held_total : (day : Day) (J : History) (i : ℕ) → i < length day.accounts → held_in (extents day J) (suc i) ≡ total day (suc i ∷ []) J
held_total day J i l = let e : 1 + i ≡ suc i = omega arith in ap held_of (mapped_get (extent day J) 1 (length day.accounts) i l ∙ ap (λ k. Some (extent day J k)) e)

held_none : (day : Day) (J : History) (i : ℕ) → length day.accounts ≤ i → held_in (extents day J) (suc i) ≡ 0
held_none day J i l = ap held_of (mapped_past (extent day J) 1 (length day.accounts) i l)

-- what the extents of an account say is its balance
pub held_is : (day : Day) (J : History) (a : ℕ) → 1 ≤ a → a ≤ length day.accounts → held_in (extents day J) a ≡ balance day J a
held_is day J zero low high = absurd (omega (arith, low))
held_is day J (suc i) low high =
    let one : total day (suc i ∷ []) J ≡ balance day J (suc i) + total day [] J = sum_by-cons (balance day J) (suc i) [] in
    let h : held_in (extents day J) (suc i) ≡ total day (suc i ∷ []) J = held_total day J i (omega (arith, high)) in
    omega (arith, one, h)

small_at : (day : Day) (J : History) → is_sound day ≡ true → IsLegal day J → (a : ℕ) → held_in (extents day J) a ≤ 10 ^ 18
small_at day J sound legal zero = omega arith
small_at day J sound legal (suc i) = elim (cases_lt i (length day.accounts)) [
  | inl low ↦ let h = held_total day J i low in let t : total day (suc i ∷ []) J ≤ 10 ^ 18 * length (suc i ∷ []) = total_small day J (suc i ∷ []) sound legal in omega (arith, h, t)
  | inr high ↦ let h = held_none day J i high in omega (arith, h)
]

pub held_small : (day : Day) (J : History) (xs : List Extent) → is_sound day ≡ true → IsLegal day J → xs ≡ extents day J → (a : ℕ) → held_in xs a ≤ 10 ^ 18
held_small day J xs sound legal e a = subst (λ (ys : List Extent). held_in ys a ≤ 10 ^ 18) (sym e) (small_at day J sound legal a)

-- ---- some accounts

others : (day : Day) (a : ℕ) (rest : List ℕ) → AreAccounts day (a ∷ rest) → AreAccounts day rest
others day a rest accounts = λ i l. accounts (suc i) (omega (arith, l))

pub helds_are : (day : Day) (J : History) (members : List ℕ) → AreAccounts day members → map (held_in (extents day J)) members ≡ map (balance day J) members
helds_are day J [] accounts = refl
helds_are day J (a ∷ rest) accounts =
    let one = accounts 0 (omega arith) in
    λ i. held_is day J a one.0 one.1 i ∷ helds_are day J rest (others day a rest accounts) i

-- ---- one account among all

pub at_number : (xs : List Extent) (a : ℕ) (d : Extent) → 1 ≤ a → a ≤ length xs → Some (get_or xs (a - 1) d) ≡ numbered xs a
at_number xs zero d low high = absurd (omega (arith, low))
at_number xs (suc i) d low high = let e : suc i - 1 ≡ i = omega arith in ap (λ j. Some (get_or xs j d)) e ∙ here xs i (omega (arith, high))
  where
    here : (xs : List Extent) (i : ℕ) → i < length xs → Some (get_or xs i d) ≡ slice_get xs i
    here [] i l = absurd (omega (arith, l))
    here (x ∷ xs) zero l = refl
    here (x ∷ xs) (suc i) l = here xs i (omega (arith, l))

-- there are as many extents as accounts, and that of an account is its own
length_mapped : (f : ℕ → Extent) (s n : ℕ) → length (map f (range_with_len s n)) ≡ n
length_mapped f s zero = refl
length_mapped f s (suc n) = ap suc (length_mapped f (s + 1) n)

pub many_extents : (day : Day) (J : History) (xs : List Extent) → xs ≡ extents day J → length xs ≡ length day.accounts
many_extents day J xs e = ap length e ∙ length_mapped (extent day J) 1 (length day.accounts)

some_same : (x y : Extent) → Some x ≡ Some y → x ≡ y
some_same x y e = ap (λ (o : Option Extent). option_map_or (λ z. z) o x) e

pub extent_is : (day : Day) (J : History) (xs : List Extent) (a : ℕ) (x : Extent) → 1 ≤ a → a ≤ length day.accounts → xs ≡ extents day J → Some x ≡ numbered xs a → x ≡ extent day J a
extent_is day J xs zero x low high e at = absurd (omega (arith, low))
extent_is day J xs (suc i) x low high e at =
    let n : 1 + i ≡ suc i = omega arith in
    some_same x (extent day J (suc i)) (at ∙ ap (λ (ys : List Extent). numbered ys (suc i)) e ∙ mapped_get (extent day J) 1 (length day.accounts) i (omega (arith, high)) ∙ ap (λ k. Some (extent day J k)) n)
