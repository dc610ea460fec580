-- Technical accounts of A: no line debits one but those of its own system's A batches.
use Rattle.std.proofs.Common.{◌≡◌, ℕ, suc, ◌+◌, Bool, true, false, ◌&&◌, ◌||◌, List, Option, Some, None, refl, sym, ◌∙◌, ap, subst, arith, inl, inr}
use Rattle.std.specs.Prelude.{is_some, unwrap_or}
use Rattle.std.specs.List.{position_from}
use Rattle.std.proofs.lemmas.Bool.{and_left, and_right, or_cases, and_parts}
use Rattle.batch_records.specs.DayRecord.{Day}
use Rattle.batch_records.specs.declared.day.Entry.{Entry}
use Rattle.cash_amounts.specs.declared.records.AccountRecord.{AccountRecord}
use Rattle.cash_amounts.specs.declared.records.AccountKind.{AccountKind}
use Rattle.cash_amounts.specs.declared.records.AccountKind.TheVariants as account_kinds
use Rattle.cash_amounts.specs.declared.records.Procedure.{Procedure}
use Rattle.cash_amounts.specs.declared.records.Procedure.TheVariants.{A, B, C, D, E}
use Rattle.account_book.specs.Directory.{is_technical_of}
use Rattle.machine.specs.Words.{some_passes, same_name, same_procedure, is_dca, is_sub, is_technical, is_fund}
use Rattle.machine.specs.Records.Setup.{account_named, account_at, is_dca_account, is_dca_of, is_sub_of, is_sub_for, is_sub_account, technical}
use Rattle.machine.specs.Records.Messages.{Sort, BatchA, BatchB, BatchC, BatchD, BatchE, sort_of, procedure_of_sort, sender, debit_account, credit_account, technical_of, technical_account, fund_of, fund_account, pays_technical, is_paid_from_technical, is_debit_entry, is_batch, is_a}
use Rattle.machine.specs.Stages.Intake.{entry_fits, payment_fits, liquidity_fits, is_technical_d}
use Rattle.settlement_laws.proofs.Base.Numbers.{FoundAt, position_found}
use Rattle.settlement_laws.proofs.Balances.MovesOfTheDay.{forms}
use Rattle.settlement_laws.proofs.Base.Lists.{never}
use Rattle.settlement_laws.proofs.ProcedureB.WholeMoves.{same_numbers}

abbrev is_technical_a : AccountRecord → Bool
is_technical_a r = is_technical r.kind && some_passes (λ q. same_procedure q A) r.procedure

-- a is a technical account of A
abbrev pub is_a_account : Day → ℕ → Bool
is_a_account day a = some_passes is_technical_a (account_at day a)

-- ---- which accounts aren't

other_kind : (test : AccountKind → Bool) → ((k : AccountKind) → test k ≡ true → is_technical k ≡ false) → (k : AccountKind) (b : Bool) → test k ≡ true → (is_technical k && b) ≡ false
other_kind test h k b t = and_left (is_technical k) b (h k t)

dca_no : (k : AccountKind) → is_dca k ≡ true → is_technical k ≡ false
dca_no account_kinds.Tech h = sym h
dca_no _ h = refl

sub_no : (k : AccountKind) → is_sub k ≡ true → is_technical k ≡ false
sub_no account_kinds.Tech h = sym h
sub_no _ h = refl

fund_no : (k : AccountKind) → is_fund k ≡ true → is_technical k ≡ false
fund_no account_kinds.Tech h = sym h
fund_no _ h = refl

not_a_record : (o : Option AccountRecord) (test : AccountRecord → Bool) → ((r : AccountRecord) → test r ≡ true → is_technical_a r ≡ false) → some_passes test o ≡ true → some_passes is_technical_a o ≡ false
not_a_record None test h k = refl
not_a_record (Some r) test h k = h r k

named_no : (day : Day) (test : AccountRecord → Bool) → ((r : AccountRecord) → test r ≡ true → is_technical_a r ≡ false) → (o : Option ℕ) → some_passes (λ a. some_passes test (account_at day a)) o ≡ true → is_a_account day (unwrap_or o 0) ≡ false
named_no day test h None k = refl
named_no day test h (Some a) k = not_a_record (account_at day a) test h k

pub dca_apart : (day : Day) (name : List ℕ) → is_dca_account day name ≡ true → is_a_account day (unwrap_or (account_named day name) 0) ≡ false
dca_apart day name h = named_no day (λ r. is_dca r.kind) (λ r t. other_kind is_dca dca_no r.kind _ t) (account_named day name) h

dca_of_apart : (day : Day) (bank name : List ℕ) → is_dca_of day bank name ≡ true → is_a_account day (unwrap_or (account_named day name) 0) ≡ false
dca_of_apart day bank name h = named_no day (λ r. is_dca r.kind && same_name r.owner bank) (λ r t. other_kind is_dca dca_no r.kind _ (and_parts (is_dca r.kind) (same_name r.owner bank) t).0) (account_named day name) h

sub_of_apart : (day : Day) (bank name : List ℕ) → is_sub_of day bank name ≡ true → is_a_account day (unwrap_or (account_named day name) 0) ≡ false
sub_of_apart day bank name h = named_no day (λ r. is_sub r.kind && same_name r.owner bank) (λ r t. other_kind is_sub sub_no r.kind _ (and_parts (is_sub r.kind) (same_name r.owner bank) t).0) (account_named day name) h

sub_for_apart : (day : Day) (system name : List ℕ) → is_sub_for day system name ≡ true → is_a_account day (unwrap_or (account_named day name) 0) ≡ false
sub_for_apart day system name h = named_no day (λ r. is_sub r.kind && some_passes (λ link. same_name link system) r.system) (λ r t. other_kind is_sub sub_no r.kind _ (and_parts (is_sub r.kind) (some_passes (λ link. same_name link system) r.system) t).0) (account_named day name) h

pub sub_apart : (day : Day) (a : ℕ) → is_sub_account day a ≡ true → is_a_account day a ≡ false
sub_apart day a h = not_a_record (account_at day a) (λ r. is_sub r.kind) (λ r t. other_kind is_sub sub_no r.kind _ t) h

-- what a search finds
pub found_passes : (day : Day) (test : AccountRecord → Bool) (a : ℕ) → position_from test 1 day.accounts ≡ Some a → some_passes test (account_at day a) ≡ true
found_passes day test a e =
    let f : FoundAt test 1 day.accounts a = position_found test 1 day.accounts a e in
    subst (λ o. some_passes test o ≡ true) (sym (ap (account_at day) (f.number ∙ one_more f.place) ∙ f.is_there)) f.passes
  where
    one_more : (i : ℕ) → 1 + i ≡ suc i
    one_more i = omega arith

searched_no : (day : Day) (test : AccountRecord → Bool) → ((r : AccountRecord) → test r ≡ true → is_technical_a r ≡ false) → (o : Option ℕ) → position_from test 1 day.accounts ≡ o → is_a_account day (unwrap_or o 0) ≡ false
searched_no day test h None e = refl
searched_no day test h (Some a) e = not_a_record (account_at day a) test h (found_passes day test a e)

pub fund_apart : (day : Day) (n : ℕ) → is_a_account day (fund_account day n) ≡ false
fund_apart day n = searched_no day (λ r. is_fund r.kind && same_name r.owner (sender day n)) (λ r t. other_kind is_fund fund_no r.kind _ (and_parts (is_fund r.kind) (same_name r.owner (sender day n)) t).0) (fund_of day n) refl

-- the procedure isn't A
abbrev not_a : Procedure → Bool
not_a A = false
not_a _ = true

other_procedure : (p q : Procedure) → not_a p ≡ true → same_procedure q p ≡ true → same_procedure q A ≡ false
other_procedure A q n h = cc
other_procedure B A n h = sym h
other_procedure B _ n h = refl
other_procedure C A n h = sym h
other_procedure C _ n h = refl
other_procedure D A n h = sym h
other_procedure D _ n h = refl
other_procedure E A n h = sym h
other_procedure E _ n h = refl

technical_no : (system : List ℕ) (p : Procedure) → not_a p ≡ true → (r : AccountRecord) → is_technical_of system p r ≡ true → is_technical_a r ≡ false
technical_no system p n r h = and_right (is_technical r.kind) _ (link r.procedure (and_parts _ (some_passes (λ q. same_procedure q p) r.procedure) h).1)
  where
    link : (o : Option Procedure) → some_passes (λ q. same_procedure q p) o ≡ true → some_passes (λ q. same_procedure q A) o ≡ false
    link None h = refl
    link (Some q) h = other_procedure p q n h

technical_apart : (day : Day) (n : ℕ) (s : Sort) → sort_of day n ≡ s → not_a (procedure_of_sort s) ≡ true → is_a_account day (technical_account day n) ≡ false
technical_apart day n s e h =
    subst (λ s. is_a_account day (unwrap_or (technical day (sender day n) (procedure_of_sort s)) 0) ≡ false) (sym e)
    (searched_no day (is_technical_of (sender day n) (procedure_of_sort s)) (technical_no (sender day n) (procedure_of_sort s) h) (technical day (sender day n) (procedure_of_sort s)) refl)

-- ---- the accounts of an entry of the right form

pub paid_from : (day : Day) (n : ℕ) (e : Entry) → is_paid_from_technical day n e ≡ true → debit_account day e ≡ technical_account day n
paid_from day n e h = same_numbers (account_named day e.debit) (technical_of day n) h

pub paid_to : (day : Day) (n : ℕ) (e : Entry) → pays_technical day n e ≡ true → credit_account day e ≡ technical_account day n
paid_to day n e h = same_numbers (account_named day e.credit) (technical_of day n) h

from_technical : (day : Day) (n : ℕ) (e : Entry) → is_a_account day (technical_account day n) ≡ false → is_paid_from_technical day n e ≡ true → is_a_account day (debit_account day e) ≡ false
from_technical day n e h p = ap (is_a_account day) (paid_from day n e p) ∙ h

pub entry_apart : (s : Sort) (day : Day) (n : ℕ) (e : Entry) → sort_of day n ≡ s → is_batch s ≡ true → is_a s ≡ false → entry_fits s day n e ≡ true → is_a_account day (debit_account day e) ≡ false
entry_apart BatchA day n e q b a h = cc
entry_apart BatchB day n e q b a h = elim (forms (is_dca_account day e.debit) (pays_technical day n e) (is_paid_from_technical day n e) (is_dca_account day e.credit) h) [
  | inl l ↦ dca_apart day e.debit l.0
  | inr r ↦ from_technical day n e (technical_apart day n BatchB q refl) r.0
]
entry_apart BatchC day n e q b a h = elim (forms (is_sub_for day (sender day n) e.debit) (pays_technical day n e) (is_paid_from_technical day n e) (is_sub_for day (sender day n) e.credit) h) [
  | inl l ↦ sub_for_apart day (sender day n) e.debit l.0
  | inr r ↦ from_technical day n e (technical_apart day n BatchC q refl) r.0
]
entry_apart BatchD day n e q b a h = from_technical day n e (technical_apart day n BatchD q refl) (and_parts (is_paid_from_technical day n e) (is_dca_account day e.credit) h).0
entry_apart BatchE day n e q b a h = dca_apart day e.debit (and_parts (is_dca_account day e.debit) (is_dca_account day e.credit) (and_parts _ _ h).0).0
entry_apart _ day n e q b a h = cc

pub payment_apart : (day : Day) (bank : List ℕ) (e : Entry) → payment_fits day bank e ≡ true → is_a_account day (debit_account day e) ≡ false
payment_apart day bank e h = dca_of_apart day bank e.debit (and_parts (is_dca_of day bank e.debit) (is_dca_account day e.credit) (and_parts _ _ h).0).0

pub liquidity_apart : (day : Day) (bank : List ℕ) (e : Entry) → liquidity_fits day bank e ≡ true → is_a_account day (debit_account day e) ≡ false
liquidity_apart day bank e h = elim (or_cases (is_dca_of day bank e.debit && is_sub_of day bank e.credit || is_sub_of day bank e.debit && is_dca_of day bank e.credit) (is_dca_of day bank e.debit && is_technical_d day e.credit) h) [
  | inl l ↦ elim (forms (is_dca_of day bank e.debit) (is_sub_of day bank e.credit) (is_sub_of day bank e.debit) (is_dca_of day bank e.credit) l) [
    | inl p ↦ dca_of_apart day bank e.debit p.0
    | inr p ↦ sub_of_apart day bank e.debit p.0
  ]
  | inr r ↦ dca_of_apart day bank e.debit (and_parts (is_dca_of day bank e.debit) (is_technical_d day e.credit) r).0
]

-- of an A batch a debit entry is paid by a DCA, and a credit entry from the technical account
pub record SidesOfA (day : Day) (n : ℕ) (e : Entry) : Type 0 where
  pub debit_side : is_debit_entry day n e ≡ true → (credit_account day e ≡ technical_account day n) × (is_a_account day (debit_account day e) ≡ false)
  pub credit_side : is_debit_entry day n e ≡ false → debit_account day e ≡ technical_account day n

-- the technical account of an A batch is one
pub technical_is_a : (day : Day) (n : ℕ) → sort_of day n ≡ BatchA → is_some (technical_of day n) ≡ true → is_a_account day (technical_account day n) ≡ true
technical_is_a day n e h = subst (λ s. is_some (technical day (sender day n) (procedure_of_sort s)) ≡ true → is_a_account day (unwrap_or (technical day (sender day n) (procedure_of_sort s)) 0) ≡ true) (sym e) (found (technical day (sender day n) A) refl) h
  where
    is_of_a : (a o p : Bool) → (a && o && p) ≡ true → (a && p) ≡ true
    is_of_a true true true h = refl
    is_of_a true true false h = cc
    is_of_a true false p h = cc
    is_of_a false o p h = cc

    of_a : (o : Option AccountRecord) → some_passes (is_technical_of (sender day n) A) o ≡ true → some_passes is_technical_a o ≡ true
    of_a None h = h
    of_a (Some r) h = is_of_a (is_technical r.kind) (same_name r.owner (sender day n)) (some_passes (λ q. same_procedure q A) r.procedure) h

    found : (o : Option ℕ) → technical day (sender day n) A ≡ o → is_some o ≡ true → is_a_account day (unwrap_or o 0) ≡ true
    found None e h = cc
    found (Some a) e h = of_a (account_at day a) (found_passes day (is_technical_of (sender day n) A) a e)

pub sides_of_a : (day : Day) (n : ℕ) (e : Entry) → is_a_account day (technical_account day n) ≡ true → entry_fits BatchA day n e ≡ true → SidesOfA day n e
sides_of_a day n e t h = record {
  debit_side = λ p. elim (forms (is_dca_account day e.debit) (pays_technical day n e) (is_paid_from_technical day n e) (is_dca_account day e.credit) h) [
    | inl l ↦ (paid_to day n e p, dca_apart day e.debit l.0)
    | inr r ↦ never (is_a_account day (technical_account day n)) t (sym (ap (is_a_account day) (paid_to day n e p)) ∙ dca_apart day e.credit r.1)
  ];
  credit_side = λ p. elim (forms (is_dca_account day e.debit) (pays_technical day n e) (is_paid_from_technical day n e) (is_dca_account day e.credit) h) [
    | inl l ↦ never (is_debit_entry day n e) l.1 p
    | inr r ↦ paid_from day n e r.0
  ];
}
