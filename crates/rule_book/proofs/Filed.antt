-- Of a name that the book of a sound day doesn't find, a search of the records finds nothing either.
use Rattle.std.proofs.Common.{◌≡◌, ℕ, ◌+◌, Bool, true, false, cond, ◌&&◌, ◌||◌, List, [], ◌∷◌, Option, None, Some, refl, ap, ◌∙◌, sym}
use Rattle.std.specs.Prelude.{is_none, is_some, nat_eq, slice_get}
use Rattle.std.specs.List.{list_all, list_any, position_from}
use Rattle.std.specs.Cmp.Lexicographic.{bytes_decides}
use Rattle.std.proofs.lemmas.Bool.{and_parts, false_from_ne_true, or_parts, and_right}
use Rattle.cash_amounts.specs.declared.records.AccountRecord.{AccountRecord}
use Rattle.cash_amounts.specs.declared.records.SystemRecord.{SystemRecord}
use Rattle.cash_amounts.specs.declared.records.AccountKind.{AccountKind}
use Rattle.cash_amounts.specs.declared.records.AccountKind.TheVariants.{Dca, Sub, Tech, Fund}
use Rattle.cash_amounts.specs.declared.records.Procedure.{Procedure}
use Rattle.cash_amounts.specs.declared.records.Procedure.TheVariants.{A, B, C, D, E}
use Rattle.cash_amounts.specs.Kinds.{flag_of, is_dca, is_fund, is_technical, same_procedure}
use Rattle.cash_amounts.specs.Names.{is_name}
use Rattle.cash_amounts.specs.SoundSetup.{accounts_are_sound, fits, is_flag_set, is_listed, is_system_name}
use Rattle.cash_amounts.specs.Tests.{same_name, some_passes}
use Rattle.batch_records.specs.DayRecord.{Day}
use Rattle.batch_records.specs.Sound.{is_sound, is_spelled_account, is_spelled_system, lists_some}
use Rattle.batch_records.proofs.SoundFacts.{setup_parts}
use Rattle.machine.specs.Records.Setup.{first_dca, fund, is_bank, system_named, technical, uses}
use Rattle.rule_book.proofs.Numbering.{is_found}

-- a name that passes is not one that fails
apart : (test : List ℕ → Bool) (a b : List ℕ) → test a ≡ true → test b ≡ false → same_name a b ≡ false
apart test a b passes fails = false_from_ne_true (same_name a b) (λ e. let same = (bytes_decides a b).0 e in let clash = sym passes ∙ ap test same ∙ fails in cc)

-- ---- searches

module _ {X : Type 0} (test holds : X → Bool) (clear : (x : X) → holds x ≡ true → test x ≡ false) where
  none_found : (i : ℕ) (xs : List X) → list_all holds xs ≡ true → position_from test i xs ≡ None
  none_found i [] all = refl
  none_found i (x ∷ xs) all =
      let parts = and_parts (holds x) (list_all holds xs) all in
      ap (λ b. cond b (Some i) (position_from test (i + 1) xs)) (clear x parts.0) ∙ none_found (i + 1) xs parts.1

module _ (systems : List SystemRecord) (test : AccountRecord → Bool) (clear : (before : List AccountRecord) (r : AccountRecord) → fits r.kind systems before r ≡ true → test r ≡ false) where
  none_fits : (i : ℕ) (before xs : List AccountRecord) → accounts_are_sound systems before xs ≡ true → position_from test i xs ≡ None
  none_fits i before [] sound = refl
  none_fits i before (r ∷ rs) sound =
      let parts = and_parts _ (accounts_are_sound systems (r ∷ before) rs) sound in
      let fit = and_parts _ (fits r.kind systems before r) parts.0 in
      ap (λ b. cond b (Some i) (position_from test (i + 1) rs)) (clear before r fit.1) ∙ none_fits (i + 1) (r ∷ before) rs parts.1

none_of_both : {X : Type 0} (test other : X → Bool) (xs : List X) → list_any test xs ≡ false → list_any (λ x. test x && other x) xs ≡ false
none_of_both test other [] none = refl
none_of_both test other (x ∷ xs) none =
    let parts = or_parts (test x) (list_any test xs) none in
    rw (parts.0, none_of_both test other xs parts.1) refl

-- ---- texts that are no names

pub no_system : (day : Day) (name : List ℕ) → is_sound day ≡ true → (is_name name ≡ true → ⊥) → system_named day name ≡ None
no_system day name sound unnamed =
    none_found (λ r. same_name r.name name) is_spelled_system
    (λ r spelled. apart is_name r.name name (and_parts (is_name r.name) (lists_some r) spelled).0 (false_from_ne_true (is_name name) unnamed))
    1 day.systems (setup_parts day sound).spelled_systems

no_dca : (day : Day) (name : List ℕ) → is_sound day ≡ true → (is_name name ≡ true → ⊥) → first_dca day name ≡ None
no_dca day name sound unnamed =
    none_found (λ r. is_dca r.kind && same_name r.owner name) is_spelled_account
    (λ r spelled.
    let names = and_parts (is_name r.name && is_name r.owner) (is_none r.system || some_passes is_name r.system) spelled in
    let owner = and_parts (is_name r.name) (is_name r.owner) names.0 in
    and_right (is_dca r.kind) (same_name r.owner name) (apart is_name r.owner name owner.1 (false_from_ne_true (is_name name) unnamed)))
    1 day.accounts (setup_parts day sound).spelled_accounts

pub no_bank : (day : Day) (name : List ℕ) → is_sound day ≡ true → (is_name name ≡ true → ⊥) → is_bank day name ≡ false
no_bank day name sound unnamed = ap is_some (no_dca day name sound unnamed)

-- ---- accounts of systems

no_system_name : (day : Day) (name : List ℕ) → system_named day name ≡ None → is_system_name day.systems name ≡ false
no_system_name day name e = is_found (λ r. same_name r.name name) day.systems ∙ ap is_some e

module _ (systems : List SystemRecord) (name : List ℕ) (none : is_system_name systems name ≡ false) where
  not_listed : (o : Option Procedure) → is_listed systems name o ≡ false
  not_listed None = refl
  not_listed (Some A) = none_of_both (λ r. same_name r.name name) (λ r. is_flag_set (slice_get r.procedures (flag_of A))) systems none
  not_listed (Some B) = none_of_both (λ r. same_name r.name name) (λ r. is_flag_set (slice_get r.procedures (flag_of B))) systems none
  not_listed (Some C) = none_of_both (λ r. same_name r.name name) (λ r. is_flag_set (slice_get r.procedures (flag_of C))) systems none
  not_listed (Some D) = none_of_both (λ r. same_name r.name name) (λ r. is_flag_set (slice_get r.procedures (flag_of D))) systems none
  not_listed (Some E) = refl

  no_technical_of : (p : Procedure) (before : List AccountRecord) (r : AccountRecord) → fits r.kind systems before r ≡ true
      → (is_technical r.kind && same_name r.owner name && some_passes (λ q. same_procedure q p) r.procedure) ≡ false
  no_technical_of p before r = by r.kind
    where
      by : (k : AccountKind) → fits k systems before r ≡ true → (is_technical k && same_name r.owner name && some_passes (λ q. same_procedure q p) r.procedure) ≡ false
      by Dca fit = refl
      by Sub fit = refl
      by Fund fit = refl
      by Tech fit =
          let parts = and_parts (is_none r.system && is_listed systems r.owner r.procedure) (nat_eq r.opening 0) fit in
          let listed = and_parts (is_none r.system) (is_listed systems r.owner r.procedure) parts.0 in
          let other = apart (λ owner. is_listed systems owner r.procedure) r.owner name listed.1 (not_listed r.procedure) in
          ap (λ b. b && some_passes (λ q. same_procedure q p) r.procedure) other

  no_fund_of : (before : List AccountRecord) (r : AccountRecord) → fits r.kind systems before r ≡ true → (is_fund r.kind && same_name r.owner name) ≡ false
  no_fund_of before r = by r.kind
    where
      by : (k : AccountKind) → fits k systems before r ≡ true → (is_fund k && same_name r.owner name) ≡ false
      by Dca fit = refl
      by Sub fit = refl
      by Tech fit = refl
      by Fund fit =
          let parts = and_parts (is_none r.system && is_none r.procedure) (is_system_name systems r.owner) fit in
          apart (λ owner. is_system_name systems owner) r.owner name parts.1 none

pub no_technical : (day : Day) (name : List ℕ) (p : Procedure) → is_sound day ≡ true → system_named day name ≡ None → technical day name p ≡ None
no_technical day name p sound e =
    none_fits day.systems (λ r. is_technical r.kind && same_name r.owner name && some_passes (λ q. same_procedure q p) r.procedure)
    (no_technical_of day.systems name (no_system_name day name e) p) 1 [] day.accounts (setup_parts day sound).accounts_fit

pub no_fund : (day : Day) (name : List ℕ) → is_sound day ≡ true → system_named day name ≡ None → fund day name ≡ None
no_fund day name sound e =
    none_fits day.systems (λ r. is_fund r.kind && same_name r.owner name)
    (no_fund_of day.systems name (no_system_name day name e)) 1 [] day.accounts (setup_parts day sound).accounts_fit

pub no_use : (day : Day) (name : List ℕ) (p : Procedure) → system_named day name ≡ None → uses day name p ≡ false
no_use day name p e =
    ap (λ b. b && (same_procedure p E || is_some (technical day name p)))
    (none_of_both (λ r. same_name r.name name) (λ r. some_passes (λ listed. listed) (slice_get r.procedures (flag_of p))) day.systems (no_system_name day name e))
