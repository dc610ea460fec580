-- In a sound day each account has a name of its own, so that a name is that of an account where both have the same bytes.
use Rattle.std.proofs.Common.{◌≡◌, ℕ, zero, suc, ◌+◌, true, false, not, cond, ◌&&◌, List, [], ◌∷◌, Option, Some, None, refl, ap, subst, sym, ◌∙◌, arith, inl, inr}
use Rattle.std.specs.Prelude.{nat_eq, slice_get, unwrap_or}
use Rattle.std.specs.List.{position_from}
use Rattle.std.specs.Cmp.Lexicographic.{bytes_decides}
use Rattle.std.proofs.lemmas.Bool.{and_parts, cases_Bool, eq-eqb, ne_eqb, not-true, or_parts}
use Rattle.std.proofs.lemmas.Option.{same_Some}
use Rattle.cash_amounts.specs.declared.records.AccountRecord.{AccountRecord}
use Rattle.cash_amounts.specs.declared.records.SystemRecord.{SystemRecord}
use Rattle.cash_amounts.specs.SoundSetup.{accounts_are_sound, fits, is_name_twice, is_role_twice}
use Rattle.cash_amounts.specs.Tests.{same_name}
use Rattle.account_book.proofs.Numbers.{found_is}
use Rattle.batch_records.specs.DayRecord.{Day}
use Rattle.batch_records.specs.Sound.{is_sound}
use Rattle.batch_records.proofs.SoundFacts.{setup_parts}
use Rattle.machine.specs.Records.Setup.{account_at, account_named}
use Rattle.machine.specs.Words.{same_account}

module _ (systems : List SystemRecord) where
  -- what stands before an account has another name
  apart : (before xs : List AccountRecord) (k : ℕ) (r : AccountRecord) → accounts_are_sound systems before xs ≡ true → slice_get xs k ≡ Some r → is_name_twice before r ≡ false
  apart before [] k r sound there = cc
  apart before (x ∷ xs) zero r sound there =
      let parts = and_parts (not (is_name_twice before x) && not (is_role_twice x.kind x.procedure before x) && fits x.kind systems before x) (accounts_are_sound systems (x ∷ before) xs) sound in
      let both = and_parts (not (is_name_twice before x) && not (is_role_twice x.kind x.procedure before x)) (fits x.kind systems before x) parts.0 in
      let name = and_parts (not (is_name_twice before x)) (not (is_role_twice x.kind x.procedure before x)) both.0 in
      subst (λ y. is_name_twice before y ≡ false) (same_Some x r there) (not-true (is_name_twice before x) name.0)
  apart before (x ∷ xs) (suc k) r sound there =
      let parts = and_parts (not (is_name_twice before x) && not (is_role_twice x.kind x.procedure before x) && fits x.kind systems before x) (accounts_are_sound systems (x ∷ before) xs) sound in
      (or_parts (same_name x.name r.name) (is_name_twice before r) (apart (x ∷ before) xs k r parts.1 there)).1

  -- so a search for its name finds it
  first : (name : List ℕ) (i j : ℕ) (before xs : List AccountRecord) (k : ℕ) (r : AccountRecord) → j ≡ i + k → accounts_are_sound systems before xs ≡ true → slice_get xs k ≡ Some r
      → r.name ≡ name → position_from (λ q. same_name q.name name) i xs ≡ Some j
  first name i j before [] k r at sound there named = cc
  first name i j before (x ∷ xs) zero r at sound there named =
      let same : x.name ≡ name = ap (λ (q : AccountRecord). q.name) (same_Some x r there) ∙ named in
      let passes : same_name x.name name ≡ true = (bytes_decides x.name name).1 same in
      let here : i ≡ j = omega (arith, at) in
      ap (λ b. cond b (Some i) (position_from (λ q. same_name q.name name) (i + 1) xs)) passes ∙ ap Some here
  first name i j before (x ∷ xs) (suc k) r at sound there named =
      let parts = and_parts (not (is_name_twice before x) && not (is_role_twice x.kind x.procedure before x) && fits x.kind systems before x) (accounts_are_sound systems (x ∷ before) xs) sound in
      let other = (or_parts (same_name x.name r.name) (is_name_twice before r) (apart (x ∷ before) xs k r parts.1 there)).0 in
      let fails : same_name x.name name ≡ false = ap (same_name x.name) (sym named) ∙ other in
      ap (λ b. cond b (Some i) (position_from (λ q. same_name q.name name) (i + 1) xs)) fails
      ∙ first name (i + 1) j (x ∷ before) xs k r (omega (arith, at)) parts.1 there named

-- the account of a number has a name where the search for it finds the number
pub has_name : (day : Day) (name : List ℕ) (a : ℕ) (r : AccountRecord) → is_sound day ≡ true → account_at day a ≡ Some r → same_name r.name name ≡ same_account (account_named day name) (Some a)
has_name day name zero r sound there = cc
has_name day name (suc k) r sound there =
    elim (cases_Bool (same_name r.name name)) [
      | inl same ↦ let found = first day.systems name 1 (suc k) [] day.accounts k r (omega arith) (setup_parts day sound).accounts_fit there ((bytes_decides r.name name).0 same) in
          same ∙ sym (ap (λ o. same_account o (Some (suc k))) found ∙ eq-eqb (suc k) (suc k) refl)
      | inr other ↦ other ∙ sym (none (account_named day name) refl other)
    ]
  where
    none : (o : Option ℕ) → account_named day name ≡ o → same_name r.name name ≡ false → same_account o (Some (suc k)) ≡ false
    none None e other = refl
    none (Some b) e other = ne_eqb b (suc k) (λ is.
        let at = found_is (λ q. same_name q.name name) day.accounts b e in
        let same : at.item ≡ r = same_Some at.item r (sym at.there ∙ ap (account_at day) is ∙ there) in
        let clash : true ≡ false = sym at.passes ∙ ap (λ (q : AccountRecord). same_name q.name name) same ∙ other in
        cc)

-- no name is that of a number that no account has
pub no_account : (day : Day) (name : List ℕ) (a : ℕ) → account_at day a ≡ None → false ≡ same_account (account_named day name) (Some a)
no_account day name a none = by (account_named day name) refl
  where
    by : (o : Option ℕ) → account_named day name ≡ o → false ≡ same_account o (Some a)
    by None e = refl
    by (Some b) e = sym (ne_eqb b a (λ is.
        let at = found_is (λ q. same_name q.name name) day.accounts b e in
        let there : account_at day a ≡ Some at.item = ap (account_at day) (sym is) ∙ at.there in
        let clash : None ≡ Some at.item = sym none ∙ there in
        cc))

-- with 0 for a name that is no account's
pub same_number : (o : Option ℕ) (a : ℕ) → (a ≡ 0 → ⊥) → same_account o (Some a) ≡ nat_eq (unwrap_or o 0) a
same_number None zero ne = absurd (ne refl)
same_number None (suc a) ne = sym (ne_eqb 0 (suc a) (λ e. ne (sym e)))
same_number (Some b) a ne = refl
