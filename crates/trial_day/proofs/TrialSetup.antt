-- The accounts and systems of a trial: what they are by name and by number.
use Rattle.std.proofs.Common.{◌≡◌, ℕ, zero, suc, ◌+◌, ◌*◌, ◌≤◌, ◌<◌, Bool, true, false, not, ◌&&◌, List, [], ◌∷◌, Option, Some, None, refl, ap}
use Rattle.std.specs.Prelude.{nat_eq, slice_get}
use Rattle.std.specs.List.{list_all, list_any, position_from, range_with_len}
use Rattle.std.specs.Option.{option_map_or}
use Rattle.std.proofs.lemmas.Bool.{and_parts, eqb-true, not-true}
use Rattle.std.proofs.lemmas.Slice.Eq.{bytes_eq-Decides}
use Rattle.cash_amounts.specs.declared.records.AccountRecord.{AccountRecord}
use Rattle.cash_amounts.specs.declared.records.SystemRecord.{SystemRecord}
use Rattle.cash_amounts.specs.declared.records.Procedure.{Procedure}
use Rattle.cash_amounts.specs.declared.records.Procedure.TheVariants.{A, B, E}
use Rattle.cash_amounts.specs.Kinds.{is_dca, is_sub, is_technical, same_procedure, flag_of}
use Rattle.cash_amounts.specs.Numbers.{numbered}
use Rattle.cash_amounts.specs.SoundSetup.{sound_setup}
use Rattle.cash_amounts.specs.Tests.{same_name, some_passes}
use Rattle.machine.specs.Words.{same_account}
use Rattle.settlement_laws.proofs.Base.Sums.{all-at}
use Rattle.trial_day.specs.Trial.{dca_name, system_name, technical_a, technical_b, trial_accounts, trial_systems}

-- the same searches that a day's are, over the records
abbrev pub by_name : List ℕ → Option ℕ
by_name name = position_from (λ (r : AccountRecord). same_name r.name name) 1 trial_accounts

abbrev pub by_role : List ℕ → Procedure → Option ℕ
by_role system p = position_from (λ (r : AccountRecord). is_technical r.kind && same_name r.owner system && some_passes (λ q. same_procedure q p) r.procedure) 1 trial_accounts

abbrev pub lists_it : List ℕ → Procedure → Bool
lists_it system p = list_any (λ (r : SystemRecord). same_name r.name system && some_passes (λ listed. listed) (slice_get r.procedures (flag_of p))) trial_systems

-- ---- all of them at once

-- dedicated cash account a: its name, its kind and its opening
abbrev dca_right : ℕ → Bool
dca_right a = same_account (by_name (dca_name a)) (Some a) && some_passes (λ (r : AccountRecord). is_dca r.kind) (numbered trial_accounts a)
    && nat_eq (option_map_or (λ (r : AccountRecord). r.opening) (numbered trial_accounts a) 0) 100000000000 && same_name (option_map_or (λ (r : AccountRecord). r.name) (numbered trial_accounts a) []) (dca_name a)

dcas_right : list_all dca_right (range_with_len 1 16) ≡ true
unfolding trial_accounts
dcas_right = refl

-- the technical accounts of system s stand after those of the banks
abbrev pub number_of_a : ℕ → ℕ
number_of_a s = 15 + 2 * s

abbrev pub number_of_b : ℕ → ℕ
number_of_b s = 16 + 2 * s

abbrev system_right : ℕ → Bool
system_right s = same_account (by_name (technical_a s)) (Some (number_of_a s)) && same_account (by_name (technical_b s)) (Some (number_of_b s))
    && same_account (by_role (system_name s) A) (Some (number_of_a s)) && same_account (by_role (system_name s) B) (Some (number_of_b s))
    && lists_it (system_name s) A && lists_it (system_name s) B && lists_it (system_name s) E && list_any (λ (r : SystemRecord). same_name r.name (system_name s)) trial_systems

systems_right : list_all system_right (range_with_len 1 8) ≡ true
unfolding trial_accounts trial_systems
systems_right = refl

no_subs_there : list_all (λ (r : AccountRecord). not (is_sub r.kind)) trial_accounts ≡ true
unfolding trial_accounts
no_subs_there = refl

pub setup_is_sound : sound_setup trial_accounts trial_systems ≡ true
unfolding trial_accounts trial_systems
setup_is_sound = refl

-- ---- one by one

is_that : (o : Option ℕ) (a : ℕ) → same_account o (Some a) ≡ true → o ≡ Some a
is_that None a h = cc
is_that (Some b) a h = ap Some (eqb-true b a h)

pub record DcaFacts (a : ℕ) : Type 0 where
  pub named : by_name (dca_name a) ≡ Some a
  pub kind : some_passes (λ (r : AccountRecord). is_dca r.kind) (numbered trial_accounts a) ≡ true
  pub opens : option_map_or (λ (r : AccountRecord). r.opening) (numbered trial_accounts a) 0 ≡ 100000000000
  pub is_called : option_map_or (λ (r : AccountRecord). r.name) (numbered trial_accounts a) [] ≡ dca_name a

pub dca_facts : (a : ℕ) → 1 ≤ a → a < 17 → DcaFacts a
dca_facts a low high =
    let h : dca_right a ≡ true = all-at dca_right 1 16 a dcas_right low high in
    let x = and_parts _ _ h in
    let y = and_parts _ _ x.0 in
    let z = and_parts (same_account (by_name (dca_name a)) (Some a)) _ y.0 in
    record { named = is_that (by_name (dca_name a)) a z.0; kind = z.1; opens = eqb-true _ _ y.1; is_called = (bytes_eq-Decides (option_map_or (λ (r : AccountRecord). r.name) (numbered trial_accounts a) []) (dca_name a)).0 x.1 }

pub record SystemFacts (s : ℕ) : Type 0 where
  pub named_a : by_name (technical_a s) ≡ Some (number_of_a s)
  pub named_b : by_name (technical_b s) ≡ Some (number_of_b s)
  pub role_a : by_role (system_name s) A ≡ Some (number_of_a s)
  pub role_b : by_role (system_name s) B ≡ Some (number_of_b s)
  pub lists_a : lists_it (system_name s) A ≡ true
  pub lists_b : lists_it (system_name s) B ≡ true
  pub lists_e : lists_it (system_name s) E ≡ true
  pub is_there : list_any (λ (r : SystemRecord). same_name r.name (system_name s)) trial_systems ≡ true

pub system_facts : (s : ℕ) → 1 ≤ s → s < 9 → SystemFacts s
system_facts s low high =
    let h : system_right s ≡ true = all-at system_right 1 8 s systems_right low high in
    let a = and_parts _ _ h in
    let b = and_parts _ _ a.0 in
    let c = and_parts _ _ b.0 in
    let d = and_parts _ _ c.0 in
    let e = and_parts _ _ d.0 in
    let f = and_parts _ _ e.0 in
    let g = and_parts _ _ f.0 in
    record {
      named_a = is_that _ _ g.0;
      named_b = is_that _ _ g.1;
      role_a = is_that _ _ f.1;
      role_b = is_that _ _ e.1;
      lists_a = d.1;
      lists_b = c.1;
      lists_e = b.1;
      is_there = a.1;
    }

pub no_sub : (a : ℕ) → some_passes (λ (r : AccountRecord). is_sub r.kind) (numbered trial_accounts a) ≡ false
no_sub zero = refl
no_sub (suc i) = none_at trial_accounts i no_subs_there
  where
    none_at : (rs : List AccountRecord) (i : ℕ) → list_all (λ (r : AccountRecord). not (is_sub r.kind)) rs ≡ true → some_passes (λ (r : AccountRecord). is_sub r.kind) (slice_get rs i) ≡ false
    none_at [] i h = refl
    none_at (r ∷ rs) zero h = not-true (is_sub r.kind) (and_parts (not (is_sub r.kind)) _ h).0
    none_at (r ∷ rs) (suc i) h = none_at rs i (and_parts (not (is_sub r.kind)) _ h).1
