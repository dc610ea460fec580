-- The name of an account of a sound setup is no other's, so what an account keeps is stated by its name.
use Rattle.std.proofs.Common.{◌≡◌, ◌∙◌, ◌+◌, ℕ, zero, suc, Bool, true, false, not, List, [], ◌∷◌, Option, Some, None, refl, sym, ap, arith, ◌⊎◌, inl, inr}
use Rattle.std.specs.Prelude.{◌&&◌, ◌||◌, bytes_eq, is_none, is_some, slice_get}
use Rattle.std.specs.List.{list_all, list_any, position_from}
use Rattle.std.specs.Option.{option_map_or}
use Rattle.std.proofs.lemmas.Bool.{eq-eqb}
use Rattle.std.proofs.lemmas.Slice.Eq.{bytes_eq-Decides}
use Rattle.cash_amounts.specs.Names.{is_name}
use Rattle.cash_amounts.specs.SoundSetup.{accounts_are_sound, fits, is_name_twice, is_role_twice}
use Rattle.cash_amounts.specs.Tests.{some_passes}
use Rattle.cash_amounts.specs.declared.records.AccountRecord.{AccountRecord}
use Rattle.cash_amounts.specs.declared.records.SystemRecord.{SystemRecord}
use Rattle.batch_records.specs.DayTexts.{name_of_account}
use Rattle.batch_records.specs.Made.{number_named}
use Rattle.batch_records.specs.Meets.{is_cents}
use Rattle.batch_records.specs.Sound.{is_account_number, is_spelled_account}
use Rattle.batch_records.specs.declared.day.Reserve.{Reserve}
use Rattle.batch_records.proofs.BoolFacts.{and_both, not_true, or_neither}
use Rattle.batch_records.proofs.KeptDay.{is_kept_reserve}

-- ---- names

abbrev IsIn : {X : Type 0} → X → List X → Type 0
IsIn x [] = ⊥
IsIn x (y ∷ ys) = (y ≡ x) ⊎ IsIn x ys

any_false : {X : Type 0} (p : X → Bool) (xs : List X) (x : X) → list_any p xs ≡ false → IsIn x xs → p x ≡ false
any_false p [] x h i = absurd i
any_false p (y ∷ ys) x h (inl e) = ap p (sym e) ∙ (or_neither (p y) (list_any p ys) h).0
any_false p (y ∷ ys) x h (inr i) = any_false p ys x (or_neither (p y) (list_any p ys) h).1 i

-- that of one after others is none of theirs
name_apart : (systems : List SystemRecord) (before xs : List AccountRecord) → accounts_are_sound systems before xs ≡ true → (q : AccountRecord) → IsIn q before → (i : ℕ) (r : AccountRecord) → slice_get xs i ≡ Some r → bytes_eq q.name r.name ≡ false
name_apart systems before [] sound q in_front i r e = cc
name_apart systems before (x ∷ xs) sound q in_front zero r e =
    let rest = and_both _ (accounts_are_sound systems (x ∷ before) xs) sound in
    let fit = and_both (not (is_name_twice before x) && not (is_role_twice x.kind x.procedure before x)) (fits x.kind systems before x) rest.0 in
    let new = and_both (not (is_name_twice before x)) (not (is_role_twice x.kind x.procedure before x)) fit.0 in
    let same : x ≡ r = cc in
    ap (λ (a : AccountRecord). bytes_eq q.name a.name) (sym same) ∙ any_false (λ (p : AccountRecord). bytes_eq p.name x.name) before q (not_true (is_name_twice before x) new.0) in_front
name_apart systems before (x ∷ xs) sound q in_front (suc i) r e =
    name_apart systems (x ∷ before) xs (and_both _ (accounts_are_sound systems (x ∷ before) xs) sound).1 q (inr in_front) i r e

-- so the first account of the name is the one of that number
pub name_place : (systems : List SystemRecord) (before xs : List AccountRecord) (start : ℕ) → accounts_are_sound systems before xs ≡ true → (i : ℕ) (r : AccountRecord) → slice_get xs i ≡ Some r → position_from (λ a. bytes_eq a.name r.name) start xs ≡ Some (start + i)
name_place systems before [] start sound i r e = cc
name_place systems before (x ∷ xs) start sound zero r e =
    let same : x ≡ r = cc in
    let is : bytes_eq x.name r.name ≡ true = (bytes_eq-Decides x.name r.name).1 (ap (λ (a : AccountRecord). a.name) same) in
    let at : start ≡ start + 0 = omega arith in
    rw is (ap Some at)
name_place systems before (x ∷ xs) start sound (suc i) r e =
    let rest = (and_both _ (accounts_are_sound systems (x ∷ before) xs) sound).1 in
    let other : bytes_eq x.name r.name ≡ false = name_apart systems (x ∷ before) xs rest x (inl refl) i r e in
    let at : start + 1 + i ≡ start + suc i = omega arith in
    rw other (name_place systems (x ∷ before) xs (start + 1) rest i r e ∙ ap Some at)

pub spelled_at : (xs : List AccountRecord) → list_all is_spelled_account xs ≡ true → (i : ℕ) (r : AccountRecord) → slice_get xs i ≡ Some r → is_name r.name ≡ true
spelled_at [] h i r e = cc
spelled_at (x ∷ xs) h zero r e =
    let same : x ≡ r = cc in
    let own = and_both (is_name x.name && is_name x.owner) (is_none x.system || some_passes is_name x.system) (and_both (is_spelled_account x) (list_all is_spelled_account xs) h).0 in
    ap (λ (a : AccountRecord). is_name a.name) (sym same) ∙ (and_both (is_name x.name) (is_name x.owner) own.0).0
spelled_at (x ∷ xs) h (suc i) r e = spelled_at xs (and_both (is_spelled_account x) (list_all is_spelled_account xs) h).1 i r e

-- ---- what accounts keep

reserve_kept : (systems : List SystemRecord) (accounts : List AccountRecord) (x : Reserve) → accounts_are_sound systems [] accounts ≡ true → list_all is_spelled_account accounts ≡ true
    → is_account_number accounts x.account ≡ true → (is_cents x.urgent && is_cents x.high) ≡ true → is_kept_reserve accounts x ≡ true
reserve_kept systems accounts x sound spelled number cents = by_number x.account refl number
  where
    both : (is_cents x.urgent ≡ true) × (is_cents x.high ≡ true)
    both = and_both (is_cents x.urgent) (is_cents x.high) cents

    by_account : (i : ℕ) → x.account ≡ suc i → (o : Option AccountRecord) → slice_get accounts i ≡ o → is_some o ≡ true → is_kept_reserve accounts x ≡ true
    by_account i e None at h = cc h
    by_account i e (Some r) at h =
        let name : name_of_account accounts x.account ≡ r.name = ap (name_of_account accounts) e ∙ ap (λ (o : Option AccountRecord). option_map_or (λ (a : AccountRecord). a.name) o []) at in
        let place : 1 + i ≡ x.account = omega (arith, e) in
        let is : number_named accounts r.name ≡ Some x.account = name_place systems [] accounts 1 sound i r at ∙ ap Some place in
        rw (name, spelled_at accounts spelled i r at, both.0, both.1, is, eq-eqb x.account x.account refl) refl

    by_number : (n : ℕ) → x.account ≡ n → is_account_number accounts n ≡ true → is_kept_reserve accounts x ≡ true
    by_number zero e h = cc h
    by_number (suc i) e h = by_account i e (slice_get accounts i) refl h

pub reserves_kept : (systems : List SystemRecord) (accounts : List AccountRecord) (xs : List Reserve) → accounts_are_sound systems [] accounts ≡ true → list_all is_spelled_account accounts ≡ true
    → list_all (λ x. is_account_number accounts x.account) xs ≡ true → list_all (λ x. is_cents x.urgent && is_cents x.high) xs ≡ true → list_all (is_kept_reserve accounts) xs ≡ true
reserves_kept systems accounts [] sound spelled numbers cents = refl
reserves_kept systems accounts (x ∷ xs) sound spelled numbers cents =
    let n = and_both (is_account_number accounts x.account) (list_all (λ x. is_account_number accounts x.account) xs) numbers in
    let c = and_both (is_cents x.urgent && is_cents x.high) (list_all (λ x. is_cents x.urgent && is_cents x.high) xs) cents in
    rw (reserve_kept systems accounts x sound spelled n.0 c.0, reserves_kept systems accounts xs sound spelled n.1 c.1) refl
