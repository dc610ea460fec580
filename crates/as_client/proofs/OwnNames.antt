-- In a sound setup each account is found again by its name.
use Rattle.std.proofs.Common.{◌≡◌, ℕ, zero, suc, ◌+◌, true, false, not, ◌&&◌, cond, List, [], ◌∷◌, slice_get, Some, ap, ◌∙◌, sym, arith}
use Rattle.std.specs.List.{position_from}
use Rattle.std.proofs.lemmas.Bool.{and_parts, or_parts, not-true}
use Rattle.std.proofs.lemmas.Option.{same_Some}
use Rattle.cash_amounts.specs.declared.records.AccountRecord.{AccountRecord}
use Rattle.cash_amounts.specs.declared.records.SystemRecord.{SystemRecord}
use Rattle.cash_amounts.specs.SoundSetup.{accounts_are_sound, fits, is_name_twice, is_role_twice}
use Rattle.cash_amounts.specs.Tests.{same_name}
use Rattle.account_book.specs.Directory.{find_account}
use Rattle.account_book.proofs.SoundLemmas.{own_name}

module _ (systems : List SystemRecord) where
  -- no account before has the name of a later one
  fresh : (before xs : List AccountRecord) (k : ℕ) (r : AccountRecord) → accounts_are_sound systems before xs ≡ true → slice_get xs k ≡ Some r → is_name_twice before r ≡ false
  fresh before [] k r sound there = cc
  fresh before (x ∷ xs) zero r sound there =
      let parts = and_parts _ (accounts_are_sound systems (x ∷ before) xs) sound in
      let names = and_parts (not (is_name_twice before x) && not (is_role_twice x.kind x.procedure before x)) (fits x.kind systems before x) parts.0 in
      let name = and_parts (not (is_name_twice before x)) (not (is_role_twice x.kind x.procedure before x)) names.0 in
      ap (is_name_twice before) (sym (same_Some x r there)) ∙ not-true (is_name_twice before x) name.0
  fresh before (x ∷ xs) (suc k) r sound there =
      let parts = and_parts _ (accounts_are_sound systems (x ∷ before) xs) sound in
      (or_parts (same_name x.name r.name) (is_name_twice before r) (fresh (x ∷ before) xs k r parts.1 there)).1

  again : (i : ℕ) (before xs : List AccountRecord) (k : ℕ) (r : AccountRecord) → accounts_are_sound systems before xs ≡ true → slice_get xs k ≡ Some r
      → position_from (λ q. same_name q.name r.name) i xs ≡ Some (i + k)
  again i before [] k r sound there = cc
  again i before (x ∷ xs) zero r sound there =
      let same : i ≡ i + 0 = omega arith in
      let own : same_name x.name r.name ≡ true = ap (λ (q : AccountRecord). same_name q.name r.name) (same_Some x r there) ∙ own_name r.name in
      ap (λ b. cond b (Some i) (position_from (λ q. same_name q.name r.name) (i + 1) xs)) own ∙ ap Some same
  again i before (x ∷ xs) (suc k) r sound there =
      let parts = and_parts _ (accounts_are_sound systems (x ∷ before) xs) sound in
      let differ = (or_parts (same_name x.name r.name) (is_name_twice before r) (fresh (x ∷ before) xs k r parts.1 there)).0 in
      let same : i + 1 + k ≡ i + suc k = omega arith in
      ap (λ b. cond b (Some i) (position_from (λ q. same_name q.name r.name) (i + 1) xs)) differ ∙ again (i + 1) (x ∷ before) xs k r parts.1 there ∙ ap Some same

pub named_again : (systems : List SystemRecord) (accounts : List AccountRecord) (k : ℕ) (r : AccountRecord) → accounts_are_sound systems [] accounts ≡ true → slice_get accounts k ≡ Some r
    → find_account accounts r.name ≡ Some (suc k)
named_again systems accounts k r sound there = let same : 1 + k ≡ suc k = omega arith in again systems 1 [] accounts k r sound there ∙ ap Some same
