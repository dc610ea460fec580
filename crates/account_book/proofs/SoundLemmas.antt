-- What a sound setup says of systems and links.
use Rattle.std.proofs.Common.{◌≡◌, ℕ, zero, suc, Bool, true, false, not, ◌&&◌, ◌||◌, List, [], ◌∷◌, slice_get, Option, None, Some, refl, ap, ◌∙◌, sym, cond, inl, inr, ◌+◌}
use Rattle.std.specs.Prelude.{is_none, is_some, nat_eq}
use Rattle.std.specs.List.{position_from}
use Rattle.std.specs.Cmp.Lexicographic.{bytes_decides}
use Rattle.std.specs.Option.{IfSome, option_map, option_and_then}
use Rattle.std.proofs.lemmas.Bool.{and_parts, or_parts, or_from, or_left, or_right, not-true, cases_Bool, both_ways}
use Rattle.cash_amounts.specs.declared.records.AccountRecord.{AccountRecord}
use Rattle.cash_amounts.specs.declared.records.SystemRecord.{SystemRecord}
use Rattle.cash_amounts.specs.declared.records.AccountKind.{AccountKind}
use Rattle.cash_amounts.specs.declared.records.AccountKind.TheVariants.{Dca, Sub, Tech, Fund}
use Rattle.cash_amounts.specs.declared.records.Procedure.{Procedure}
use Rattle.cash_amounts.specs.declared.records.Procedure.TheVariants.{C}
use Rattle.cash_amounts.specs.Kinds.{flag_of}
use Rattle.cash_amounts.specs.Numbers.{numbered}
use Rattle.cash_amounts.specs.SoundSetup.{accounts_are_sound, fits, is_flag_set, is_system_name, is_within_limits, links_to, lists, owns_dca, sound_setup, systems_are_sound}
use Rattle.cash_amounts.specs.Tests.{same_name, some_passes}
use Rattle.account_book.specs.Directory.{account_name, find_account, find_system, linked_system, lists_procedure, system_name}
use Rattle.account_book.proofs.Numbers.{found_is}

-- ---- names

pub same_names : (a b : List ℕ) → same_name a b ≡ true → a ≡ b
same_names a b = (bytes_decides a b).0

pub own_name : (a : List ℕ) → same_name a a ≡ true
own_name a = (bytes_decides a a).1 refl

-- the system that is found has the name
pub find_system-name : (systems : List SystemRecord) (name : List ℕ) (s : ℕ) → find_system systems name ≡ Some s → system_name systems s ≡ name
find_system-name systems name s e =
    let at = found_is (λ r. same_name r.name name) systems s e in
    let same = same_names at.item.name name at.passes in
    rw at.there same

-- the account that is found has the name
pub find_account-name : (accounts : List AccountRecord) (name : List ℕ) (a : ℕ) → find_account accounts name ≡ Some a → account_name accounts a ≡ name
find_account-name accounts name a e =
    let at = found_is (λ r. same_name r.name name) accounts a e in
    let same = same_names at.item.name name at.passes in
    rw at.there same

pub account_named : (accounts : List AccountRecord) (name : List ℕ) (o : Option ℕ) → o ≡ find_account accounts name → IfSome o (λ a. account_name accounts a ≡ name)
account_named accounts name None e = tt
account_named accounts name (Some a) e = find_account-name accounts name a (sym e)

pub system_has_name : (systems : List SystemRecord) (name : List ℕ) (o : Option ℕ) → o ≡ find_system systems name → IfSome o (λ s. system_name systems s ≡ name)
system_has_name systems name None e = tt
system_has_name systems name (Some s) e = find_system-name systems name s (sym e)

-- ---- systems: no name twice

-- a name before the systems is none of theirs
none_later : (before systems : List SystemRecord) (name : List ℕ) → systems_are_sound before systems ≡ true → is_system_name before name ≡ true → is_system_name systems name ≡ false
none_later before [] name sound there = refl
none_later before (x ∷ xs) name sound there =
    let parts = and_parts (not (is_system_name before x.name)) (systems_are_sound (x ∷ before) xs) sound in
    let apart = not-true (is_system_name before x.name) parts.0 in
    let here : same_name x.name name ≡ false =
    elim (cases_Bool (same_name x.name name)) [
      | inl same ↦ absurd (both_ways (is_system_name before x.name) apart (ap (is_system_name before) (same_names x.name name same) ∙ there))
      | inr other ↦ other
    ]
    in
    or_from (same_name x.name name) (is_system_name xs name) here
    (none_later (x ∷ before) xs name parts.1 (or_right (same_name x.name name) (is_system_name before name) there))

-- a name before the systems is not that of any of them
apart_later : (before systems : List SystemRecord) (k : ℕ) (r : SystemRecord) → systems_are_sound before systems ≡ true → slice_get systems k ≡ Some r
    → is_system_name before r.name ≡ false
apart_later before [] k r sound there = cc
apart_later before (x ∷ xs) zero r sound there =
    let parts = and_parts (not (is_system_name before x.name)) (systems_are_sound (x ∷ before) xs) sound in
    let same : x ≡ r = cc in
    ap (λ (y : SystemRecord). is_system_name before y.name) (sym same) ∙ not-true (is_system_name before x.name) parts.0
apart_later before (x ∷ xs) (suc k) r sound there =
    let parts = and_parts (not (is_system_name before x.name)) (systems_are_sound (x ∷ before) xs) sound in
    (or_parts (same_name x.name r.name) (is_system_name before r.name) (apart_later (x ∷ before) xs k r parts.1 there)).1

or_none : (b : Bool) → (b || false) ≡ b
or_none true = refl
or_none false = refl

not_listed : (systems : List SystemRecord) (name : List ℕ) (p : Procedure) → is_system_name systems name ≡ false → lists_procedure systems name p ≡ false
not_listed [] name p none = refl
not_listed (x ∷ xs) name p none =
    let parts = or_parts (same_name x.name name) (is_system_name xs name) none in
    rw (parts.0, not_listed xs name p parts.1) refl

lists_at : (before systems : List SystemRecord) (k : ℕ) (r : SystemRecord) (p : Procedure) → systems_are_sound before systems ≡ true → slice_get systems k ≡ Some r
    → lists_procedure systems r.name p ≡ some_passes (λ listed. listed) (slice_get r.procedures (flag_of p))
lists_at before [] k r p sound there = cc
lists_at before (x ∷ xs) zero r p sound there =
    let parts = and_parts (not (is_system_name before x.name)) (systems_are_sound (x ∷ before) xs) sound in
    let same : x ≡ r = cc in
    let own = own_name x.name in
    let others = not_listed xs x.name p (none_later (x ∷ before) xs x.name parts.1 (or_left (same_name x.name x.name) (is_system_name before x.name) own)) in
    let here : lists_procedure (x ∷ xs) x.name p ≡ some_passes (λ listed. listed) (slice_get x.procedures (flag_of p)) =
    rw (own, others) (or_none (some_passes (λ listed. listed) (slice_get x.procedures (flag_of p)))) in
    ap (λ (y : SystemRecord). lists_procedure (x ∷ xs) y.name p) (sym same) ∙ here ∙ ap (λ (y : SystemRecord). some_passes (λ listed. listed) (slice_get y.procedures (flag_of p))) same
lists_at before (x ∷ xs) (suc k) r p sound there =
    let parts = and_parts (not (is_system_name before x.name)) (systems_are_sound (x ∷ before) xs) sound in
    let apart = or_parts (same_name x.name r.name) (is_system_name before r.name) (apart_later (x ∷ before) xs k r parts.1 there) in
    rw apart.0 (lists_at (x ∷ before) xs k r p parts.1 there)

-- ---- accounts: each sub-account has its system

module _ (systems : List SystemRecord) where
  -- a name that is listed for something is a system's
  pub listed_found : (all : List SystemRecord) (i : ℕ) (name : List ℕ) (p : Procedure) → lists all name p ≡ true → is_some (position_from (λ r. same_name r.name name) i all) ≡ true
  listed_found [] i name p e = cc
  listed_found (x ∷ xs) i name p e = by (same_name x.name name) e (listed_found xs (i + 1) name p)
    where
      by : (b : Bool) → ((b && is_flag_set (slice_get x.procedures (flag_of p))) || lists xs name p) ≡ true
          → (lists xs name p ≡ true → is_some (position_from (λ r. same_name r.name name) (i + 1) xs) ≡ true)
          → is_some (cond b (Some i) (position_from (λ r. same_name r.name name) (i + 1) xs)) ≡ true
      by true h later = refl
      by false h later = later h

  -- an account's link, where it has one, is a system's name
  linked_found : (kind : AccountKind) (before : List AccountRecord) (r : AccountRecord) (name : List ℕ) → fits kind systems before r ≡ true → r.system ≡ Some name
      → is_some (find_system systems name) ≡ true
  linked_found Dca before r name e link = let no = rw link at e in cc
  linked_found Sub before r name e link =
      let most = and_parts (owns_dca before r.owner && links_to systems r.system && is_none r.procedure) (nat_eq r.opening 0) e in
      let some = and_parts (owns_dca before r.owner && links_to systems r.system) (is_none r.procedure) most.0 in
      let links = and_parts (owns_dca before r.owner) (links_to systems r.system) some.0 in
      listed_found systems 1 name C (ap (links_to systems) (sym link) ∙ links.1)
  linked_found Tech before r name e link = let no = rw link at e in cc
  linked_found Fund before r name e link = let no = rw link at e in cc

  linked_at : (before accounts : List AccountRecord) (k : ℕ) (r : AccountRecord) (name : List ℕ) → accounts_are_sound systems before accounts ≡ true → slice_get accounts k ≡ Some r
      → r.system ≡ Some name → is_some (find_system systems name) ≡ true
  linked_at before [] k r name sound there link = cc
  linked_at before (x ∷ xs) zero r name sound there link =
      let parts = and_parts _ (accounts_are_sound systems (x ∷ before) xs) sound in
      let fit = and_parts _ (fits x.kind systems before x) parts.0 in
      let same : x ≡ r = cc in
      linked_found x.kind before x name fit.1 (ap (λ (y : AccountRecord). y.system) same ∙ link)
  linked_at before (x ∷ xs) (suc k) r name sound there link =
      let parts = and_parts _ (accounts_are_sound systems (x ∷ before) xs) sound in
      linked_at (x ∷ before) xs k r name parts.1 there link

-- ---- the setup

module _ (accounts : List AccountRecord) (systems : List SystemRecord) (sound : sound_setup accounts systems ≡ true) where
  sound_systems : systems_are_sound [] systems ≡ true
  sound_systems = (and_parts (systems_are_sound [] systems) (accounts_are_sound systems [] accounts) (and_parts _ (is_within_limits accounts systems) sound).0).0

  sound_accounts : accounts_are_sound systems [] accounts ≡ true
  sound_accounts = (and_parts (systems_are_sound [] systems) (accounts_are_sound systems [] accounts) (and_parts _ (is_within_limits accounts systems) sound).0).1

  -- no other system has the name of system s
  pub lists_by_number : (s : ℕ) (r : SystemRecord) (p : Procedure) → numbered systems s ≡ Some r → lists_procedure systems r.name p ≡ some_passes (λ listed. listed) (slice_get r.procedures (flag_of p))
  lists_by_number zero r p there = cc
  lists_by_number (suc k) r p there = lists_at [] systems k r p sound_systems there

  -- an account's link by its number is its link by its name
  pub link-name : (a : ℕ) → option_map (system_name systems) (option_and_then (find_system systems) (linked_system accounts a)) ≡ linked_system accounts a
  link-name zero = refl
  link-name (suc k) = by (slice_get accounts k) refl
    where
      found : (name : List ℕ) (o : Option ℕ) → find_system systems name ≡ o → is_some o ≡ true → option_map (system_name systems) o ≡ Some name
      found name None e some = cc
      found name (Some s) e some = ap Some (find_system-name systems name s e)

      linked : (r : AccountRecord) (o : Option (List ℕ)) → slice_get accounts k ≡ Some r → r.system ≡ o → option_map (system_name systems) (option_and_then (find_system systems) o) ≡ o
      linked r None there link = refl
      linked r (Some name) there link = found name (find_system systems name) refl (linked_at systems [] accounts k r name sound_accounts there link)

      by : (o : Option AccountRecord) → slice_get accounts k ≡ o
          → option_map (system_name systems) (option_and_then (find_system systems) (option_and_then (λ r. r.system) o)) ≡ option_and_then (λ r. r.system) o
      by None there = refl
      by (Some r) there = linked r r.system there refl
