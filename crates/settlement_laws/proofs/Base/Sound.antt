-- What a sound day gives to the laws.
use Rattle.std.proofs.Common.{◌≡◌, ℕ, zero, suc, ◌+◌, Bool, true, false, ◌&&◌, ◌||◌, List, [], ◌∷◌, Option, Some, None, refl, sym, subst, cond, ◌⊎◌, inl, inr}
use Rattle.std.specs.Prelude.{is_some, slice_get, bytes_eq}
use Rattle.std.specs.List.{list_any, position_from}
use Rattle.std.proofs.lemmas.Bool.{and_parts}
use Rattle.std.proofs.lemmas.Option.{same_Some}
use Rattle.batch_records.specs.DayRecord.{Day}
use Rattle.cash_amounts.specs.declared.records.AccountRecord.{AccountRecord}
use Rattle.cash_amounts.specs.declared.records.SystemRecord.{SystemRecord}
use Rattle.cash_amounts.specs.declared.records.AccountKind.{AccountKind}
use Rattle.cash_amounts.specs.declared.records.AccountKind.TheVariants.{Sub}
use Rattle.cash_amounts.specs.SoundSetup.{sound_setup, systems_are_sound, accounts_are_sound, owns_dca, fits, is_within_limits}
use Rattle.cash_amounts.specs.Kinds.{is_dca, is_sub}
use Rattle.batch_records.specs.Sound.{is_sound}
use Rattle.machine.specs.Words.{some_passes}
use Rattle.machine.specs.Records.Setup.{account_at, first_dca, owner}
use Rattle.settlement_laws.proofs.Base.SoundParts.{sound_parts}
use Rattle.settlement_laws.proofs.Balances.MovesOfTheDay.{SubsHaveDca}

sub_fits : (k : AccountKind) (systems : List SystemRecord) (before : List AccountRecord) (r : AccountRecord) → is_sub k ≡ true → fits k systems before r ≡ true → owns_dca before r.owner ≡ true
sub_fits Sub systems before r s h = (and_parts (owns_dca before r.owner) _ (and_parts _ _ (and_parts _ _ h).0).0).0
sub_fits _ systems before r s h = cc

sub_owner : (systems : List SystemRecord) (before rs : List AccountRecord) (i : ℕ) (r : AccountRecord) → accounts_are_sound systems before rs ≡ true → slice_get rs i ≡ Some r → is_sub r.kind ≡ true →
    (owns_dca before r.owner ≡ true) ⊎ (owns_dca rs r.owner ≡ true)
sub_owner systems before [] i r h e s = cc
sub_owner systems before (q ∷ rs) zero r h e s =
    let f : fits q.kind systems before q ≡ true = (and_parts _ (fits q.kind systems before q) (and_parts _ _ h).0).1 in
    let q_is : q ≡ r = same_Some q r e in
    inl (subst (λ (x : AccountRecord). owns_dca before x.owner ≡ true) q_is (sub_fits q.kind systems before q (subst (λ (x : AccountRecord). is_sub x.kind ≡ true) (sym q_is) s) f))
sub_owner systems before (q ∷ rs) (suc i) r h e s = here (is_dca q.kind && bytes_eq q.owner r.owner) (sub_owner systems (q ∷ before) rs i r (and_parts _ (accounts_are_sound systems (q ∷ before) rs) h).1 e s)
  where
    here : (b : Bool) → ((b || owns_dca before r.owner) ≡ true) ⊎ (owns_dca rs r.owner ≡ true) → (owns_dca before r.owner ≡ true) ⊎ ((b || owns_dca rs r.owner) ≡ true)
    here true k = inr refl
    here false k = k

any_position : {X : Type 0} (test : X → Bool) (s : ℕ) (xs : List X) → list_any test xs ≡ true → is_some (position_from test s xs) ≡ true
any_position test s [] h = cc
any_position test s (x ∷ xs) h = here (test x) h (any_position test (s + 1) xs)
  where
    here : (b : Bool) → (b || list_any test xs) ≡ true → (list_any test xs ≡ true → is_some (position_from test (s + 1) xs) ≡ true) → is_some (cond b (Some s) (position_from test (s + 1) xs)) ≡ true
    here true h later = refl
    here false h later = later h

no_owner : (rs : List AccountRecord) (bank : List ℕ) → (owns_dca [] bank ≡ true) ⊎ (owns_dca rs bank ≡ true) → owns_dca rs bank ≡ true
no_owner rs bank (inl h) = cc
no_owner rs bank (inr h) = h

sub_at : (day : Day) (o : Option AccountRecord) (a : ℕ) → account_at day a ≡ o → some_passes (λ r. is_sub r.kind) o ≡ true → ((r : AccountRecord) → account_at day a ≡ Some r → is_sub r.kind ≡ true → is_some (first_dca day r.owner) ≡ true) → is_some (first_dca day (owner day a)) ≡ true
sub_at day None a e h k = cc
sub_at day (Some r) a e h k = rw e (k r e h)

pub subs_have_dca : (day : Day) → is_sound day ≡ true → SubsHaveDca day
subs_have_dca day h a s = sub_at day (account_at day a) a refl s (λ r e k. any_position (λ r'. is_dca r'.kind && bytes_eq r'.owner r.owner) 1 day.accounts (no_owner day.accounts r.owner (there a r e k)))
  where
    setup_is : sound_setup day.accounts day.systems ≡ true
    setup_is = (sound_parts day h).setup

    accounts_are : accounts_are_sound day.systems [] day.accounts ≡ true
    accounts_are = (and_parts (systems_are_sound [] day.systems) (accounts_are_sound day.systems [] day.accounts) (and_parts _ (is_within_limits day.accounts day.systems) setup_is).0).1

    there : (a : ℕ) (r : AccountRecord) → account_at day a ≡ Some r → is_sub r.kind ≡ true → (owns_dca [] r.owner ≡ true) ⊎ (owns_dca day.accounts r.owner ≡ true)
    there zero r e k = cc
    there (suc i) r e k = sub_owner day.systems [] day.accounts i r accounts_are e k
