-- What the accounts of a sound day keep: in a list of all of them, no more than the largest amount, and nothing where there is no such
-- account; and what items must leave.
use Rattle.std.proofs.Common.{◌≡◌, ◌∙◌, ℕ, zero, suc, ◌+◌, ◌-◌, ◌<◌, ◌≤◌, Bool, true, false, List, [], ◌∷◌, Option, Some, None, cond, length, map, refl, sym, ap, subst, arith}
use Rattle.std.specs.Prelude.{find, nat_eq, option_map, slice_get}
use Rattle.std.specs.List.{list_all, range_with_len}
use Rattle.std.specs.Option.{option_map_or}
use Rattle.std.proofs.lemmas.Bool.{and_parts, eqb-true, leb-true}
use Rattle.cash_amounts.specs.declared.records.AccountRecord.{AccountRecord}
use Rattle.cash_amounts.specs.Kinds.{is_dca}
use Rattle.cash_amounts.specs.Tests.{some_passes}
use Rattle.batch_records.specs.DayRecord.{Day}
use Rattle.batch_records.specs.declared.day.Reserve.{Reserve}
use Rattle.batch_records.specs.Sound.{is_dca_number, is_sound, is_sound_reserve}
use Rattle.batch_records.proofs.SoundFacts.{version_parts}
use Rattle.machine.specs.Records.Messages.{Sort, Pay, is_high, is_pay}
use Rattle.machine.specs.Records.Reserves.{kept, kept_high, kept_of, kept_urgent, must_leave_as, reserve_of}
use Rattle.machine.proofs.Lists.{get_map}

-- ---- the list of all accounts

abbrev pub both_kept : Day → ℕ → ℕ × ℕ
both_kept day a = (kept_urgent day a, kept_high day a)

pub mapped_size : {X : Type 0} (f : ℕ → X) (s n : ℕ) → length (map f (range_with_len s n)) ≡ n
mapped_size f s zero = refl
mapped_size f s (suc n) = ap suc (mapped_size f (s + 1) n)

pub kept_size : (day : Day) → length (kept_of day) ≡ length day.accounts
kept_size day = mapped_size (both_kept day) 1 (length day.accounts)

got : {X : Type 0} (xs : List X) (i : ℕ) → i < length xs → (x : X) × (slice_get xs i ≡ Some x)
got [] i h = absurd (omega (arith, h))
got (x ∷ xs) zero h = (x, refl)
got (x ∷ xs) (suc i) h = got xs i (omega (arith, h))

pub kept_got : (day : Day) (a : ℕ) → 1 ≤ a → a ≤ length day.accounts → slice_get (kept_of day) (a - 1) ≡ Some (both_kept day a)
kept_got day a low high =
    let there = got day.accounts (a - 1) (omega (arith, low, high)) in
    get_map (both_kept day) day.accounts 1 (a - 1) a (omega (arith, low)) ∙ ap (option_map (λ y. both_kept day a)) there.1

-- ---- what a day says of an account is one of its sound reserves

found : (pick test : Reserve → Bool) (xs : List Reserve) (x : Reserve) → list_all test xs ≡ true → find pick xs ≡ Some x → (pick x ≡ true) × (test x ≡ true)
found pick test [] x h e = cc
found pick test (y ∷ ys) x h e = let both = and_parts (test y) (list_all test ys) h in here (pick y) refl e both.0 (found pick test ys x both.1)
  where
    here : (b : Bool) → pick y ≡ b → cond b (Some y) (find pick ys) ≡ Some x → test y ≡ true → (find pick ys ≡ Some x → (pick x ≡ true) × (test x ≡ true)) → (pick x ≡ true) × (test x ≡ true)
    here true p e t later = let same : y ≡ x = cc in (ap pick (sym same) ∙ p, ap test (sym same) ∙ t)
    here false p e t later = later e

of_account : (day : Day) (a : ℕ) (x : Reserve) → is_sound day ≡ true → reserve_of day a ≡ Some x → (x.account ≡ a) × (is_sound_reserve day.accounts x ≡ true)
of_account day a x sound e =
    let f = found (λ x. nat_eq x.account a) (is_sound_reserve day.accounts) day.reserves x (version_parts day sound).each e in
    (eqb-true x.account a f.0, f.1)

-- ---- no more than the largest amount

pub kept_small : (day : Day) (a : ℕ) → is_sound day ≡ true → kept_urgent day a + kept_high day a ≤ 1000000000000000000
kept_small day a sound = here (reserve_of day a) refl
  where
    here : (o : Option Reserve) → reserve_of day a ≡ o → option_map_or (λ (x : Reserve). x.urgent) o 0 + option_map_or (λ (x : Reserve). x.high) o 0 ≤ 1000000000000000000
    here None e = omega arith
    here (Some x) e = leb-true (x.urgent + x.high) 1000000000000000000 (and_parts (is_dca_number day.accounts x.account) _ (of_account day a x sound e).1).1

-- ---- nothing where there is no such account

within : (accounts : List AccountRecord) (a : ℕ) → is_dca_number accounts a ≡ true → (1 ≤ a) × (a ≤ length accounts)
within accounts zero h = cc
within accounts (suc i) h = (omega arith, let low = there accounts i h in omega (arith, low))
  where
    there : (accounts : List AccountRecord) (i : ℕ) → some_passes (λ r. is_dca r.kind) (slice_get accounts i) ≡ true → i < length accounts
    there [] i h = cc
    there (r ∷ rs) zero h = omega arith
    there (r ∷ rs) (suc i) h = let low = there rs i h in omega (arith, low)

none_of : (day : Day) (a : ℕ) → is_sound day ≡ true → ((1 ≤ a) × (a ≤ length day.accounts) → ⊥) → reserve_of day a ≡ None
none_of day a sound out = here (reserve_of day a) refl
  where
    here : (o : Option Reserve) → reserve_of day a ≡ o → o ≡ None
    here None e = refl
    here (Some x) e =
        let of = of_account day a x sound e in
        absurd (out (subst (λ b. (1 ≤ b) × (b ≤ length day.accounts)) of.0 (within day.accounts x.account (and_parts (is_dca_number day.accounts x.account) _ of.1).0)))

pub kept_none : (day : Day) (a : ℕ) (high : Bool) → is_sound day ≡ true → ((1 ≤ a) × (a ≤ length day.accounts) → ⊥) → kept day a high ≡ 0
kept_none day a high sound out = here high (none_of day a sound out)
  where
    here : (b : Bool) → reserve_of day a ≡ None → kept day a b ≡ 0
    here true e = ap (λ o. option_map_or (λ (x : Reserve). x.urgent) o 0) e
    here false e = ap (λ o. option_map_or (λ (x : Reserve). x.urgent) o 0 + option_map_or (λ (x : Reserve). x.high) o 0) e

-- ---- what items leave

pub payment_leaves : (s : Sort) (day : Day) (n a : ℕ) → is_pay s ≡ true → must_leave_as s day n a ≡ kept day a (is_high day n)
payment_leaves Pay day n a h = refl
payment_leaves _ day n a h = cc

pub other_leaves : (s : Sort) (day : Day) (n a : ℕ) → is_pay s ≡ false → must_leave_as s day n a ≡ 0
other_leaves Pay day n a h = cc
other_leaves _ day n a h = refl
