use Rattle.std.proofs.Common.{◌∙◌, ◌≤◌, ◌*◌, ap, arith, length, sum_by}
use Rattle.std.specs.Prelude.{nat_lt}
use Rattle.std.specs.List.{list_all}
use Rattle.machine.specs.Stages.Intake.{amount_of}
use Rattle.trial_day.specs.Trial.{drawn_entries}
use Rattle.trial_day.proofs.TrialMessages.{sum_small}
use Rattle.trial_day.proofs.TrialSound.{GoodEntries}
use Rattle.trial_day.proofs.Making.{draws_small, few_entries, message_is}
use Rattle.trial_day.proofs.day.trial_message.Goals as goal

pub drawn_entries-requires-clause-drawn : goal.drawn_entries-requires-clause-drawn
drawn_entries-requires-clause-drawn c = ap (list_all (λ t. nat_lt t.debit 65536)) c.trios_behind-last.ensures.trios ∙ draws_small c.args.x

pub batch-message-requires-clause-few : goal.batch-message-requires-clause-few
batch-message-requires-clause-few c =
    let g : GoodEntries c.in_ok-entries.entries =
    few_entries c.args.i c.system_of_message.result c.args.x c.trios_behind-last.result.0 c.in_ok-entries.entries c.system_of_message.ensures.least c.system_of_message.ensures.most c.trios_behind-last.ensures.trios
    (c.in_ok-entries.ensures ∙ ap (λ p. drawn_entries p c.system_of_message.result c.trios_behind-last.result.0) c.procedure_of_message-procedure.ensures) in
    rw c.as_slice.ensures g.few

pub batch-message-requires-clause-small : goal.batch-message-requires-clause-small
batch-message-requires-clause-small c =
    let g : GoodEntries c.in_ok-entries.entries =
    few_entries c.args.i c.system_of_message.result c.args.x c.trios_behind-last.result.0 c.in_ok-entries.entries c.system_of_message.ensures.least c.system_of_message.ensures.most c.trios_behind-last.ensures.trios
    (c.in_ok-entries.ensures ∙ ap (λ p. drawn_entries p c.system_of_message.result c.trios_behind-last.result.0) c.procedure_of_message-procedure.ensures) in
    let sum : sum_by amount_of c.in_ok-entries.entries ≤ 10000 * length c.in_ok-entries.entries = sum_small c.in_ok-entries.entries g.high in
    rw c.as_slice.ensures (omega (arith, sum, g.few))

pub returns-clause-message : goal.returns-clause-message
returns-clause-message c = λ seed from.
    (rw c.as_slice.ensures at c.batch-message.ensures.message) ∙ message_is seed c.args.i c.args.x c.procedure_of_message-procedure.result c.system_of_message.result c.trios_behind-last.result.0 c.in_ok-entries.entries c.procedure_of_message-procedure.ensures c.system_of_message.ensures.number c.trios_behind-last.ensures.trios c.in_ok-entries.ensures from
