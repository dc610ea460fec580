-- The names of a sound day's accounts tell them apart, and a party finds each account that it owns by its name.
use Rattle.std.proofs.Common.{◌≡◌, ◌∙◌, ℕ, zero, suc, Bool, true, false, List, [], ◌∷◌, Option, Some, refl, sym, ap, arith, inl, inr, length}
use Rattle.std.specs.Prelude.{nat_eq, nat_lt, slice_get}
use Rattle.std.specs.Option.{option_and_then, option_map_or}
use Rattle.std.proofs.lemmas.Bool.{and_parts, eqb-false, eqb-true, ltb-false, ltb-true}
use Rattle.std.proofs.lemmas.Option.{slice_get_past, same_Some}
use Rattle.cash_amounts.specs.declared.records.AccountRecord.{AccountRecord}
use Rattle.cash_amounts.specs.Names.{is_name}
use Rattle.account_book.proofs.SoundLemmas.{same_names, own_name}
use Rattle.batch_records.specs.DayRecord.{Day}
use Rattle.batch_records.specs.Sound.{is_sound, is_spelled_account}
use Rattle.batch_records.proofs.SoundFacts.{setup_parts}
use Rattle.machine.specs.Words.{same_name, when}
use Rattle.machine.specs.Records.Setup.{account_named, owner}
use Rattle.machine.proofs.Lists.{all_get}
use Rattle.settlement_laws.proofs.Balances.Elsewhere.{account_or_not}
use Rattle.settlement_laws.proofs.Balances.MovesOfTheDay.{IsAccount}
use Rattle.settlement_laws.proofs.DayEnd.Progress.{get_there}
use Rattle.status_messages.specs.Statuses.{account_name}
use Rattle.as_client.specs.Views.{own_account}
use Rattle.as_client.proofs.OwnNames.{named_again}

abbrev name_in : Option AccountRecord → List ℕ
name_in o = option_map_or (λ (r : AccountRecord). r.name) o []

-- account a with its record
record Account (day : Day) (a : ℕ) : Type 0 where
  place : ℕ
  number : a ≡ suc place
  found : AccountRecord
  is : slice_get day.accounts place ≡ Some found

account_is : (day : Day) (a : ℕ) → IsAccount day a → Account day a
account_is day a h = let t = get_there day.accounts h.0 h.2 in record { place = h.0; number = omega (arith, h.1); found = t.0; is = t.1 }

name_of_account : (day : Day) (a : ℕ) (at : Account day a) → account_name day a ≡ at.found.name
name_of_account day a at = ap (account_name day) at.number ∙ ap name_in at.is

both_spelled : (day : Day) (a : ℕ) → is_sound day ≡ true → (at : Account day a) → (is_name at.found.name ≡ true) × (is_name at.found.owner ≡ true)
both_spelled day a sound at = and_parts (is_name at.found.name) (is_name at.found.owner) (and_parts _ _ (all_get is_spelled_account day.accounts at.place at.found (setup_parts day sound).spelled_accounts at.is)).0

pub name_spelled : (day : Day) (a : ℕ) → is_sound day ≡ true → IsAccount day a → is_name (account_name day a) ≡ true
name_spelled day a sound h = let at = account_is day a h in ap is_name (name_of_account day a at) ∙ (both_spelled day a sound at).0

pub owner_spelled : (day : Day) (a : ℕ) → is_sound day ≡ true → IsAccount day a → is_name (owner day a) ≡ true
owner_spelled day a sound h = let at = account_is day a h in ap is_name (ap (owner day) at.number ∙ ap (λ o. option_map_or (λ (r : AccountRecord). r.owner) o []) at.is) ∙ (both_spelled day a sound at).1

nameless : (day : Day) (a : ℕ) → (IsAccount day a → ⊥) → account_name day a ≡ []
nameless day zero h = refl
nameless day (suc i) h = here (nat_lt i (length day.accounts)) refl
  where
    here : (b : Bool) → nat_lt i (length day.accounts) ≡ b → account_name day (suc i) ≡ []
    here true e = absurd (h (i, omega arith, ltb-true i (length day.accounts) e))
    here false e = ap name_in (slice_get_past day.accounts i (ltb-false i (length day.accounts) e))

found_again : (day : Day) → is_sound day ≡ true → (a : ℕ) → IsAccount day a → account_named day (account_name day a) ≡ Some a
found_again day sound a h =
    let at = account_is day a h in
    ap (account_named day) (name_of_account day a at) ∙ named_again day.systems day.accounts at.place at.found (setup_parts day sound).accounts_fit at.is ∙ ap Some (sym at.number)

not_empty : (name : List ℕ) → is_name name ≡ true → same_name name [] ≡ false
not_empty [] h = cc
not_empty (c ∷ name) h = refl

names_apart : (day : Day) → is_sound day ≡ true → (d a : ℕ) → IsAccount day d → (d ≡ a → ⊥) → same_name (account_name day d) (account_name day a) ≡ false
names_apart day sound d a h other = elim (account_or_not day a) [
  | inl k ↦ by k (same_name (account_name day d) (account_name day a)) refl
  | inr k ↦ ap (same_name (account_name day d)) (nameless day a k) ∙ not_empty (account_name day d) (name_spelled day d sound h)
]
  where
    by : IsAccount day a → (b : Bool) → same_name (account_name day d) (account_name day a) ≡ b → b ≡ false
    by k true e = absurd (other (same_Some d a (sym (found_again day sound d h) ∙ ap (account_named day) (same_names (account_name day d) (account_name day a) e) ∙ found_again day sound a k)))
    by k false e = refl

-- of an account and any number, the names are the same exactly where the numbers are
pub names_tell : (day : Day) → is_sound day ≡ true → (d a : ℕ) → IsAccount day d → same_name (account_name day d) (account_name day a) ≡ nat_eq d a
names_tell day sound d a h = here (nat_eq d a) refl
  where
    here : (b : Bool) → nat_eq d a ≡ b → same_name (account_name day d) (account_name day a) ≡ b
    here true e = ap (λ x. same_name (account_name day d) (account_name day x)) (sym (eqb-true d a e)) ∙ own_name (account_name day d)
    here false e = names_apart day sound d a h (eqb-false d a e)

pub own_found : (day : Day) → is_sound day ≡ true → (name : List ℕ) (d : ℕ) → IsAccount day d → same_name (owner day d) name ≡ true → own_account day name (account_name day d) ≡ Some d
own_found day sound name d h owns =
    ap (option_and_then (λ a. when (same_name (owner day a) name) a)) (found_again day sound d h) ∙ ap (λ b. when b d) owns
