use Rattle.std.proofs.Common.{◌∙◌, Some, ap, sym}
use Rattle.batch_records.specs.declared.kinds.RecordKind.{RecordKind}
use Rattle.batch_records.specs.declared.kinds.RecordKind.TheVariants as record_kinds
use Rattle.batch_records.proofs.AccountFacts.{account_count, account_opens, account_texts, system_count, system_texts}
use Rattle.batch_records.proofs.Fine.{fine, reserve_amounts}
use Rattle.batch_records.proofs.KeptFacts.{small_accounts}
use Rattle.batch_records.proofs.SetupRoom.{reserve_count}
use Rattle.batch_records.proofs.so_far.SoFar.add_to_setup.Goals as goal

pub add_system-requires-clause-texts : goal.add_system-requires-clause-texts
add_system-requires-clause-texts c =
    let named = (rw c.field.ensures at (sym c.kind_named.ensures)) ∙ c.in-Some-As.is ∙ ap (λ (v : RecordKind). Some v) c.in-Some-As.field-0-is in
    system_texts c.args.self.now c.args.row.now (fine record_kinds.As c.args.self.now c.args.row.now c.requires.fine named)

pub add_system-requires-clause-few : goal.add_system-requires-clause-few
add_system-requires-clause-few c =
    let named = (rw c.field.ensures at (sym c.kind_named.ensures)) ∙ c.in-Some-As.is ∙ ap (λ (v : RecordKind). Some v) c.in-Some-As.field-0-is in
    system_count c.args.self.now c.args.row.now (fine record_kinds.As c.args.self.now c.args.row.now c.requires.fine named)

pub add_account-requires-clause-texts : goal.add_account-requires-clause-texts
add_account-requires-clause-texts c =
    let named = (rw c.field.ensures at (sym c.kind_named.ensures)) ∙ c.in-Some-Acc.is ∙ ap (λ (v : RecordKind). Some v) c.in-Some-Acc.field-0-is in
    account_texts c.args.self.now c.args.row.now (fine record_kinds.Acc c.args.self.now c.args.row.now c.requires.fine named)

pub add_account-requires-clause-few : goal.add_account-requires-clause-few
add_account-requires-clause-few c =
    let named = (rw c.field.ensures at (sym c.kind_named.ensures)) ∙ c.in-Some-Acc.is ∙ ap (λ (v : RecordKind). Some v) c.in-Some-Acc.field-0-is in
    account_count c.args.self.now c.args.row.now (fine record_kinds.Acc c.args.self.now c.args.row.now c.requires.fine named)

pub add_account-requires-clause-fits : goal.add_account-requires-clause-fits
add_account-requires-clause-fits c =
    let named = (rw c.field.ensures at (sym c.kind_named.ensures)) ∙ c.in-Some-Acc.is ∙ ap (λ (v : RecordKind). Some v) c.in-Some-Acc.field-0-is in
    account_opens c.args.self.now c.args.row.now (fine record_kinds.Acc c.args.self.now c.args.row.now c.requires.fine named)

pub add_reserve-requires-clause-amounts : goal.add_reserve-requires-clause-amounts
add_reserve-requires-clause-amounts c =
    let named = (rw c.field.ensures at (sym c.kind_named.ensures)) ∙ c.in-Some-Res.is ∙ ap (λ (v : RecordKind). Some v) c.in-Some-Res.field-0-is in
    reserve_amounts c.args.self.now c.args.row.now (fine record_kinds.Res c.args.self.now c.args.row.now c.requires.fine named)

pub add_reserve-requires-clause-accounts : goal.add_reserve-requires-clause-accounts
add_reserve-requires-clause-accounts c = small_accounts c.args.self.now c.requires.step

pub add_reserve-requires-clause-few : goal.add_reserve-requires-clause-few
add_reserve-requires-clause-few c =
    let named = (rw c.field.ensures at (sym c.kind_named.ensures)) ∙ c.in-Some-Res.is ∙ ap (λ (v : RecordKind). Some v) c.in-Some-Res.field-0-is in
    reserve_count c.args.self.now c.args.row.now c.requires.fine c.requires.step named
