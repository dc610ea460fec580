-- What a book keeps beside its records, read by number.
use Rattle.std.proofs.Common.{◌≡◌, ℕ, zero, suc, ◌-◌, ◌<◌, ◌≤◌, Bool, true, false, List, [], ◌∷◌, ◌++◌, ◌+◌, length, map, take, get_or, slice_get, Option, None, Some, refl, ap, ◌∙◌, sym, add-one, arith}
use Rattle.std.specs.Option.{IfSome, option_and_then, option_map}
use Rattle.std.proofs.lemmas.List.{length-map}
use Rattle.cash_amounts.specs.declared.records.AccountRecord.{AccountRecord}
use Rattle.cash_amounts.specs.declared.records.SystemRecord.{SystemRecord}
use Rattle.cash_amounts.specs.declared.records.Procedure.{Procedure}
use Rattle.cash_amounts.specs.declared.records.Procedure.TheVariants.{A, B, C, D, E}
use Rattle.cash_amounts.specs.Kinds.{flag_of}
use Rattle.cash_amounts.specs.Numbers.{numbered}
use Rattle.cash_amounts.specs.SoundSetup.{sound_setup}
use Rattle.cash_amounts.specs.Tests.{same_name, some_passes}
use Rattle.account_book.specs.declared.directory.Roles.{Roles}
use Rattle.account_book.specs.Directory.{find_system, fund_account, linked_system, lists_procedure, opening, system_name, technical_account}
use Rattle.account_book.specs.Filed.{link, roles}
use Rattle.account_book.proofs.Numbers.{found_within, numbered-map, numbered-read}
use Rattle.account_book.proofs.SoundLemmas.{lists_by_number}

-- what is kept for each item is read at the item's number
pub kept_at : {X Y : Type 0} (f : X → Y) (xs : List X) (kept : List Y) (n : ℕ) (y : Y) → kept ≡ map f xs → 0 < n → n ≤ length xs → y ≡ get_or kept (n - 1) y
    → option_map f (numbered xs n) ≡ Some y
kept_at f xs kept n y is low high read =
    let same : length kept ≡ length xs = ap length is ∙ length-map xs f in
    sym (numbered-map f xs n) ∙ ap (λ ys. numbered ys n) (sym is) ∙ numbered-read kept n y low (omega arith) read

module _ (accounts : List AccountRecord) (systems : List SystemRecord) (s : ℕ) (r : Roles) (is : option_map (roles accounts) (numbered systems s) ≡ Some r) where
  by_record : (o : Option SystemRecord) → numbered systems s ≡ o → (x : SystemRecord) × (numbered systems s ≡ Some x) × (roles accounts x ≡ r)
  by_record None there = let no = rw there at is in cc
  by_record (Some x) there = let same : roles accounts x ≡ r = cc in (x, there, same)

  -- the fund is that of the system's name
  pub fund_is : r.fund ≡ fund_account accounts (system_name systems s)
  fund_is = let x = by_record (numbered systems s) refl in rw x.1 (ap (λ (y : Roles). y.fund) (sym x.2))

  at_flag : (x : SystemRecord) (p : Procedure) → get_or (roles accounts x).technical (flag_of p) None ≡ technical_account accounts x.name p
  at_flag x A = refl
  at_flag x B = refl
  at_flag x C = refl
  at_flag x D = refl
  at_flag x E = refl

  -- the technical account is that of the system's name
  pub technical_is : (p : Procedure) → get_or r.technical (flag_of p) None ≡ technical_account accounts (system_name systems s) p
  technical_is p = let x = by_record (numbered systems s) refl in rw x.1 (ap (λ (y : Roles). get_or y.technical (flag_of p) None) (sym x.2) ∙ at_flag x.0 p)

flag_read : (flags : List Bool) (k : ℕ) → get_or flags k false ≡ some_passes (λ listed. listed) (slice_get flags k)
flag_read [] k = refl
flag_read (b ∷ bs) zero = refl
flag_read (b ∷ bs) (suc k) = flag_read bs k

-- the flag of the record of system s says what its name lists
pub listed_is : (accounts : List AccountRecord) (systems : List SystemRecord) (s : ℕ) (r : SystemRecord) (p : Procedure) → sound_setup accounts systems ≡ true → numbered systems s ≡ Some r
    → get_or r.procedures (flag_of p) false ≡ lists_procedure systems (system_name systems s) p
listed_is accounts systems s r p sound there =
    let named : system_name systems s ≡ r.name = rw there refl in
    flag_read r.procedures (flag_of p) ∙ sym (lists_by_number accounts systems sound s r p there) ∙ ap (λ name. lists_procedure systems name p) (sym named)

module _ (accounts : List AccountRecord) (systems : List SystemRecord) where
  -- the link that is kept for the record of account a is that of the account
  pub link_is : (a : ℕ) (y : Option ℕ) → option_map (link (find_system systems)) (numbered accounts a) ≡ Some y → y ≡ option_and_then (find_system systems) (linked_system accounts a)
  link_is a y e = by (numbered accounts a) e
    where
      by : (o : Option AccountRecord) → option_map (link (find_system systems)) o ≡ Some y → y ≡ option_and_then (find_system systems) (option_and_then (λ r. r.system) o)
      by None e = cc
      by (Some r) e = cc

  -- it is the number of a system
  pub link_within : (o : Option (List ℕ)) (y : Option ℕ) → y ≡ option_and_then (find_system systems) o → IfSome y (λ s. (0 < s) × (s ≤ length systems))
  link_within None y e = rw e tt
  link_within (Some name) y e = found_within (λ r. same_name r.name name) systems y e

-- the openings of the accounts so far, and then that of the next
pub openings-more : (accounts : List AccountRecord) (i : ℕ) → i < length accounts
    → map (λ (r : AccountRecord). r.opening) (take i accounts) ++ opening accounts (i + 1) ∷ [] ≡ map (λ (r : AccountRecord). r.opening) (take (i + 1) accounts)
openings-more [] i h = absurd (omega arith)
openings-more (x ∷ xs) zero h = refl
openings-more (x ∷ xs) (suc i) h =
    let rest = rw (add-one i) at (openings-more xs i (omega arith)) in
    rw (add-one (suc i)) (ap (λ os. x.opening ∷ os) rest)
