-- The part that an account plays: its kind, and of a technical account its procedure.
use Rattle.std.proofs.Common.{◌≡◌, ℕ, ◌+◌, Bool, true, ◌&&◌, List, Option, Some, None, refl, sym, ◌∙◌, ap, subst}
use Rattle.std.specs.Prelude.{is_some, unwrap_or}
use Rattle.std.specs.List.{position_from}
use Rattle.std.specs.Option.{option_map_or}
use Rattle.std.proofs.lemmas.Bool.{eqb-true, and_parts}
use Rattle.batch_records.specs.DayRecord.{Day}
use Rattle.batch_records.specs.declared.day.Entry.{Entry}
use Rattle.cash_amounts.specs.declared.records.AccountRecord.{AccountRecord}
use Rattle.cash_amounts.specs.declared.records.AccountKind.{AccountKind}
use Rattle.cash_amounts.specs.declared.records.AccountKind.TheVariants as account_kinds
use Rattle.cash_amounts.specs.declared.records.Procedure.{Procedure}
use Rattle.cash_amounts.specs.declared.records.Procedure.TheVariants.{D}
use Rattle.machine.specs.Words.{some_passes, same_name, same_procedure, flag_of, is_dca, is_sub, is_technical, is_fund}
use Rattle.machine.specs.Records.Setup.{account_named, account_at, is_dca_account, is_dca_of, is_sub_of, is_sub_for, is_sub_account, technical, first_dca}
use Rattle.machine.specs.Records.Messages.{Sort, sort_of, procedure_of_sort, sender, debit_account, credit_account, technical_of, technical_account, fund_of, fund_account, pays_technical, is_paid_from_technical}
use Rattle.machine.specs.Stages.Intake.{is_technical_d}
use Rattle.settlement_laws.proofs.ProcedureA.DebitedByOwnBatches.{found_passes, paid_from, paid_to}
use Rattle.settlement_laws.proofs.Balances.MovesOfTheDay.{same_value}

abbrev pub role_as : AccountKind → Option Procedure → ℕ
role_as account_kinds.Dca p = 0
role_as account_kinds.Sub p = 1
role_as account_kinds.Fund p = 2
role_as account_kinds.Tech None = 3
role_as account_kinds.Tech (Some p) = 4 + flag_of p

abbrev pub role_of : AccountRecord → ℕ
role_of r = role_as r.kind r.procedure

abbrev pub role_at : Day → ℕ → ℕ
role_at day a = option_map_or role_of (account_at day a) 9

-- ---- by kind

dca_role : (k : AccountKind) (p : Option Procedure) → is_dca k ≡ true → role_as k p ≡ 0
dca_role account_kinds.Dca p h = refl
dca_role _ p h = cc

sub_role : (k : AccountKind) (p : Option Procedure) → is_sub k ≡ true → role_as k p ≡ 1
sub_role account_kinds.Sub p h = refl
sub_role _ p h = cc

fund_role_as : (k : AccountKind) (p : Option Procedure) → is_fund k ≡ true → role_as k p ≡ 2
fund_role_as account_kinds.Fund p h = refl
fund_role_as _ p h = cc

tech_role : (p : Procedure) (k : AccountKind) (o : Option Procedure) → is_technical k ≡ true → some_passes (λ q. same_procedure q p) o ≡ true → role_as k o ≡ 4 + flag_of p
tech_role p account_kinds.Tech (Some q) h s = ap (λ x. 4 + x) (eqb-true (flag_of q) (flag_of p) s)
tech_role p account_kinds.Tech None h s = cc
tech_role p _ o h s = cc

-- ---- of the account of a number, of a name, and of what a search finds

record_role : (test : AccountRecord → Bool) (i : ℕ) → ((r : AccountRecord) → test r ≡ true → role_of r ≡ i) → (o : Option AccountRecord) → some_passes test o ≡ true → option_map_or role_of o 9 ≡ i
record_role test i h None k = cc
record_role test i h (Some r) k = h r k

named_role : (day : Day) (test : AccountRecord → Bool) (i : ℕ) → ((r : AccountRecord) → test r ≡ true → role_of r ≡ i) → (o : Option ℕ) → some_passes (λ a. some_passes test (account_at day a)) o ≡ true → role_at day (unwrap_or o 0) ≡ i
named_role day test i h None k = cc
named_role day test i h (Some a) k = record_role test i h (account_at day a) k

searched_role : (day : Day) (test : AccountRecord → Bool) (i : ℕ) → ((r : AccountRecord) → test r ≡ true → role_of r ≡ i) → (o : Option ℕ) → position_from test 1 day.accounts ≡ o → is_some o ≡ true → role_at day (unwrap_or o 0) ≡ i
searched_role day test i h None e k = cc
searched_role day test i h (Some a) e k = record_role test i h (account_at day a) (found_passes day test a e)

pub dca_is : (day : Day) (name : List ℕ) → is_dca_account day name ≡ true → role_at day (unwrap_or (account_named day name) 0) ≡ 0
dca_is day name h = named_role day (λ r. is_dca r.kind) 0 (λ r t. dca_role r.kind r.procedure t) (account_named day name) h

pub dca_of_is : (day : Day) (bank name : List ℕ) → is_dca_of day bank name ≡ true → role_at day (unwrap_or (account_named day name) 0) ≡ 0
dca_of_is day bank name h = named_role day (λ r. is_dca r.kind && same_name r.owner bank) 0 (λ r t. dca_role r.kind r.procedure (and_parts (is_dca r.kind) (same_name r.owner bank) t).0) (account_named day name) h

pub sub_of_is : (day : Day) (bank name : List ℕ) → is_sub_of day bank name ≡ true → role_at day (unwrap_or (account_named day name) 0) ≡ 1
sub_of_is day bank name h = named_role day (λ r. is_sub r.kind && same_name r.owner bank) 1 (λ r t. sub_role r.kind r.procedure (and_parts (is_sub r.kind) (same_name r.owner bank) t).0) (account_named day name) h

pub sub_for_is : (day : Day) (system name : List ℕ) → is_sub_for day system name ≡ true → role_at day (unwrap_or (account_named day name) 0) ≡ 1
sub_for_is day system name h = named_role day (λ r. is_sub r.kind && some_passes (λ link. same_name link system) r.system) 1 (λ r t. sub_role r.kind r.procedure (and_parts (is_sub r.kind) (some_passes (λ link. same_name link system) r.system) t).0) (account_named day name) h

pub technical_d_is : (day : Day) (name : List ℕ) → is_technical_d day name ≡ true → role_at day (unwrap_or (account_named day name) 0) ≡ 7
technical_d_is day name h = named_role day (λ r. is_technical r.kind && some_passes (λ p. same_procedure p D) r.procedure) 7 (λ r t. let b = and_parts (is_technical r.kind) (some_passes (λ p. same_procedure p D) r.procedure) t in tech_role D r.kind r.procedure b.0 b.1) (account_named day name) h

pub sub_is : (day : Day) (a : ℕ) → is_sub_account day a ≡ true → role_at day a ≡ 1
sub_is day a h = record_role (λ r. is_sub r.kind) 1 (λ r t. sub_role r.kind r.procedure t) (account_at day a) h

pub first_dca_is : (day : Day) (bank : List ℕ) → is_some (first_dca day bank) ≡ true → role_at day (unwrap_or (first_dca day bank) 0) ≡ 0
first_dca_is day bank h = searched_role day (λ r. is_dca r.kind && same_name r.owner bank) 0 (λ r t. dca_role r.kind r.procedure (and_parts (is_dca r.kind) (same_name r.owner bank) t).0) (first_dca day bank) refl h

pub fund_is : (day : Day) (n : ℕ) → is_some (fund_of day n) ≡ true → role_at day (fund_account day n) ≡ 2
fund_is day n h = searched_role day (λ r. is_fund r.kind && same_name r.owner (sender day n)) 2 (λ r t. fund_role_as r.kind r.procedure (and_parts (is_fund r.kind) (same_name r.owner (sender day n)) t).0) (fund_of day n) refl h

pub technical_is_of : (day : Day) (n : ℕ) (s : Sort) → sort_of day n ≡ s → is_some (technical_of day n) ≡ true → role_at day (technical_account day n) ≡ 4 + flag_of (procedure_of_sort s)
technical_is_of day n s q h = subst (λ (x : Sort). is_some (technical day (sender day n) (procedure_of_sort x)) ≡ true → role_at day (unwrap_or (technical day (sender day n) (procedure_of_sort x)) 0) ≡ 4 + flag_of (procedure_of_sort s)) (sym q) (at_procedure (procedure_of_sort s)) h
  where
    at_procedure : (p : Procedure) → is_some (technical day (sender day n) p) ≡ true → role_at day (unwrap_or (technical day (sender day n) p) 0) ≡ 4 + flag_of p
    at_procedure p h = searched_role day (λ r. is_technical r.kind && same_name r.owner (sender day n) && some_passes (λ q. same_procedure q p) r.procedure) (4 + flag_of p)
        (λ r t. let b = and_parts _ (some_passes (λ q. same_procedure q p) r.procedure) t in tech_role p r.kind r.procedure (and_parts (is_technical r.kind) (same_name r.owner (sender day n)) b.0).0 b.1)
        (technical day (sender day n) p) refl h

-- ---- of the technical side of an entry

pub to_technical : (day : Day) (n : ℕ) (e : Entry) (s : Sort) → sort_of day n ≡ s → pays_technical day n e ≡ true → role_at day (credit_account day e) ≡ 4 + flag_of (procedure_of_sort s)
to_technical day n e s q p = ap (role_at day) (paid_to day n e p) ∙ technical_is_of day n s q (same_value (account_named day e.credit) (technical_of day n) p)

pub from_technical : (day : Day) (n : ℕ) (e : Entry) (s : Sort) → sort_of day n ≡ s → is_paid_from_technical day n e ≡ true → role_at day (debit_account day e) ≡ 4 + flag_of (procedure_of_sort s)
from_technical day n e s q p = ap (role_at day) (paid_from day n e p) ∙ technical_is_of day n s q (same_value (account_named day e.debit) (technical_of day n) p)
