use Rattle.std.proofs.Common.{◌∙◌, ap, arith, length}
use Rattle.batch_records.specs.Counts.{one_if}
use Rattle.batch_records.specs.Versions.{begins_with_ver}
use Rattle.batch_records.proofs.SoundFacts.{few_records_in}
use Rattle.batch_records.proofs.day.Day.records.Goals as goal

pub overflow_cast-result : goal.overflow_cast-result
overflow_cast-result c =
    omega (arith, few_records_in c.args.self.now c.requires, ap length c.systems.ensures, ap length c.accounts.ensures, ap length c.reserves.ensures, ap length c.stops.ensures, c.message_count.ensures, c.entry_count-entries.ensures)

pub overflow_add-result : goal.overflow_add-result
overflow_add-result c =
    omega (arith, few_records_in c.args.self.now c.requires, ap length c.systems.ensures, ap length c.accounts.ensures, ap length c.reserves.ensures, ap length c.stops.ensures, c.message_count.ensures, c.entry_count-entries.ensures)

pub overflow_add-result-2 : goal.overflow_add-result-2
overflow_add-result-2 c =
    let head = c.head_count.ensures ∙ ap (λ v. one_if (begins_with_ver v)) c.version.ensures in
    omega (arith, few_records_in c.args.self.now c.requires, ap length c.systems.ensures, ap length c.accounts.ensures, ap length c.reserves.ensures, ap length c.stops.ensures, c.message_count.ensures, c.entry_count-entries.ensures, head)

pub returns-clause-few : goal.returns-clause-few
returns-clause-few c =
    let head = c.head_count.ensures ∙ ap (λ v. one_if (begins_with_ver v)) c.version.ensures in
    omega (arith, few_records_in c.args.self.now c.requires, ap length c.systems.ensures, ap length c.accounts.ensures, ap length c.reserves.ensures, ap length c.stops.ensures, c.message_count.ensures, c.entry_count-entries.ensures, head)
