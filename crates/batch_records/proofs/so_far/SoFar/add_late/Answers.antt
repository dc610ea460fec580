use Rattle.std.proofs.Common.{◌∙◌, Some, ap, arith, sym}
use Rattle.batch_records.specs.declared.kinds.RecordKind.{RecordKind}
use Rattle.batch_records.specs.declared.kinds.RecordKind.TheVariants as record_kinds
use Rattle.batch_records.proofs.Fine.{answer_texts, batch_texts, cycle_texts, entry_count, entry_texts, fine, objection_texts, payment_texts, stop_text, transfer_texts}
use Rattle.batch_records.proofs.KeptFacts.{small_round}
use Rattle.batch_records.proofs.VersionFacts.{entries_at_most}
use Rattle.batch_records.proofs.so_far.SoFar.add_late.Goals as goal

pub stops_before-round-requires : goal.stops_before-round-requires
stops_before-round-requires c = small_round c.args.self.now c.requires.step

pub batch_from-requires : goal.batch_from-requires
batch_from-requires c =
    let named = (rw c.field.ensures at (sym c.kind_named.ensures)) ∙ c.in-Some-Bat.is ∙ ap (λ (v : RecordKind). Some v) c.in-Some-Bat.field-0-is in
    batch_texts c.args.self.now c.args.row.now (fine record_kinds.Bat c.args.self.now c.args.row.now c.requires.fine named)

pub add_entry-requires-clause-texts : goal.add_entry-requires-clause-texts
add_entry-requires-clause-texts c =
    let named = (rw c.field.ensures at (sym c.kind_named.ensures)) ∙ c.in-Some-Ent.is ∙ ap (λ (v : RecordKind). Some v) c.in-Some-Ent.field-0-is in
    entry_texts c.args.self.now c.args.row.now (fine record_kinds.Ent c.args.self.now c.args.row.now c.requires.fine named)

pub add_entry-requires-clause-few : goal.add_entry-requires-clause-few
add_entry-requires-clause-few c =
    let named = (rw c.field.ensures at (sym c.kind_named.ensures)) ∙ c.in-Some-Ent.is ∙ ap (λ (v : RecordKind). Some v) c.in-Some-Ent.field-0-is in
    omega (arith, entry_count c.args.self.now c.args.row.now (fine record_kinds.Ent c.args.self.now c.args.row.now c.requires.fine named), entries_at_most c.args.self.now.version)

pub payment_from-requires : goal.payment_from-requires
payment_from-requires c =
    let named = (rw c.field.ensures at (sym c.kind_named.ensures)) ∙ c.in-Some-Pay.is ∙ ap (λ (v : RecordKind). Some v) c.in-Some-Pay.field-0-is in
    payment_texts c.args.self.now c.args.row.now (fine record_kinds.Pay c.args.self.now c.args.row.now c.requires.fine named)

pub transfer_from-requires : goal.transfer_from-requires
transfer_from-requires c =
    let named = (rw c.field.ensures at (sym c.kind_named.ensures)) ∙ c.in-Some-Liq.is ∙ ap (λ (v : RecordKind). Some v) c.in-Some-Liq.field-0-is in
    transfer_texts c.args.self.now c.args.row.now (fine record_kinds.Liq c.args.self.now c.args.row.now c.requires.fine named)

pub objection_from-requires : goal.objection_from-requires
objection_from-requires c =
    let named = (rw c.field.ensures at (sym c.kind_named.ensures)) ∙ c.in-Some-Obj.is ∙ ap (λ (v : RecordKind). Some v) c.in-Some-Obj.field-0-is in
    objection_texts c.args.self.now c.args.row.now (fine record_kinds.Obj c.args.self.now c.args.row.now c.requires.fine named)

pub add_stop-requires : goal.add_stop-requires
add_stop-requires c =
    let named = (rw c.field.ensures at (sym c.kind_named.ensures)) ∙ c.in-Some-Tim.is ∙ ap (λ (v : RecordKind). Some v) c.in-Some-Tim.field-0-is in
    stop_text c.args.self.now c.args.row.now (fine record_kinds.Tim c.args.self.now c.args.row.now c.requires.fine named)

pub answer_from-requires : goal.answer_from-requires
answer_from-requires c =
    let named = (rw c.field.ensures at (sym c.kind_named.ensures)) ∙ c.in-Some-Cnf.is ∙ ap (λ (v : RecordKind). Some v) c.in-Some-Cnf.field-0-is in
    answer_texts c.args.self.now c.args.row.now (fine record_kinds.Cnf c.args.self.now c.args.row.now c.requires.fine named)

pub cycle_from-requires : goal.cycle_from-requires
cycle_from-requires c =
    let named = (rw c.field.ensures at (sym c.kind_named.ensures)) ∙ c.in-Some-Cyc.is ∙ ap (λ (v : RecordKind). Some v) c.in-Some-Cyc.field-0-is in
    cycle_texts c.args.self.now c.args.row.now (fine record_kinds.Cyc c.args.self.now c.args.row.now c.requires.fine named)
