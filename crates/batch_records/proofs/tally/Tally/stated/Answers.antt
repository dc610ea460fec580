use Rattle.std.proofs.Common.{◌≡◌, None, subst}
use Rattle.batch_records.specs.Tallies.{late_code_of}
use Rattle.batch_records.specs.declared.kinds.RecordKind.{RecordKind}
use Rattle.batch_records.specs.declared.kinds.RecordKind.TheVariants as record_kinds
use Rattle.batch_records.proofs.Fine.{answer_texts, batch_texts, cycle_texts, entry_texts, objection_texts, payment_texts, stop_text, transfer_texts}
use Rattle.batch_records.proofs.TallyFacts.{is_late, shadow, shadowed}
use Rattle.batch_records.proofs.tally.Tally.stated.Goals as goal

pub batch_from-requires : goal.batch_from-requires
batch_from-requires c = batch_texts (shadow c.args.self.now) c.args.row.now (shadowed record_kinds.Bat c.args.self.now c.args.row.now (subst (λ (k : RecordKind). late_code_of k c.args.self.now c.args.row.now ≡ None) c.in-Bat.is c.requires))

pub payment_from-requires : goal.payment_from-requires
payment_from-requires c = payment_texts (shadow c.args.self.now) c.args.row.now (shadowed record_kinds.Pay c.args.self.now c.args.row.now (subst (λ (k : RecordKind). late_code_of k c.args.self.now c.args.row.now ≡ None) c.in-Pay.is c.requires))

pub transfer_from-requires : goal.transfer_from-requires
transfer_from-requires c = transfer_texts (shadow c.args.self.now) c.args.row.now (shadowed record_kinds.Liq c.args.self.now c.args.row.now (subst (λ (k : RecordKind). late_code_of k c.args.self.now c.args.row.now ≡ None) c.in-Liq.is c.requires))

pub objection_from-requires : goal.objection_from-requires
objection_from-requires c = objection_texts (shadow c.args.self.now) c.args.row.now (shadowed record_kinds.Obj c.args.self.now c.args.row.now (subst (λ (k : RecordKind). late_code_of k c.args.self.now c.args.row.now ≡ None) c.in-Obj.is c.requires))

pub answer_from-requires : goal.answer_from-requires
answer_from-requires c = answer_texts (shadow c.args.self.now) c.args.row.now (shadowed record_kinds.Cnf c.args.self.now c.args.row.now (subst (λ (k : RecordKind). late_code_of k c.args.self.now c.args.row.now ≡ None) c.in-Cnf.is c.requires))

pub cycle_from-requires : goal.cycle_from-requires
cycle_from-requires c = cycle_texts (shadow c.args.self.now) c.args.row.now (shadowed record_kinds.Cyc c.args.self.now c.args.row.now (subst (λ (k : RecordKind). late_code_of k c.args.self.now c.args.row.now ≡ None) c.in-Cyc.is c.requires))

pub entry_from-requires : goal.entry_from-requires
entry_from-requires c = entry_texts (shadow c.args.self.now) c.args.row.now (shadowed record_kinds.Ent c.args.self.now c.args.row.now (subst (λ (k : RecordKind). late_code_of k c.args.self.now c.args.row.now ≡ None) c.in-Ent.is c.requires))

pub stop_from-requires : goal.stop_from-requires
stop_from-requires c = stop_text (shadow c.args.self.now) c.args.row.now (shadowed record_kinds.Tim c.args.self.now c.args.row.now (subst (λ (k : RecordKind). late_code_of k c.args.self.now c.args.row.now ≡ None) c.in-Tim.is c.requires))

pub unreachable-requires : goal.unreachable-requires
unreachable-requires c = is_late record_kinds.Ver c.args.self.now c.args.row.now (subst (λ (k : RecordKind). late_code_of k c.args.self.now c.args.row.now ≡ None) c.in-Ver.is c.requires)

pub unreachable-requires-in-Day : goal.unreachable-requires-in-Day
unreachable-requires-in-Day c = is_late record_kinds.Day c.args.self.now c.args.row.now (subst (λ (k : RecordKind). late_code_of k c.args.self.now c.args.row.now ≡ None) c.in-Day.is c.requires)

pub unreachable-requires-in-As : goal.unreachable-requires-in-As
unreachable-requires-in-As c = is_late record_kinds.As c.args.self.now c.args.row.now (subst (λ (k : RecordKind). late_code_of k c.args.self.now c.args.row.now ≡ None) c.in-As.is c.requires)

pub unreachable-requires-in-Acc : goal.unreachable-requires-in-Acc
unreachable-requires-in-Acc c = is_late record_kinds.Acc c.args.self.now c.args.row.now (subst (λ (k : RecordKind). late_code_of k c.args.self.now c.args.row.now ≡ None) c.in-Acc.is c.requires)

pub unreachable-requires-in-Res : goal.unreachable-requires-in-Res
unreachable-requires-in-Res c = is_late record_kinds.Res c.args.self.now c.args.row.now (subst (λ (k : RecordKind). late_code_of k c.args.self.now c.args.row.now ≡ None) c.in-Res.is c.requires)
