use Rattle.std.proofs.Common.{◌≡◌, length, ap, ◌∙◌, arith}
use Rattle.as_client.specs.BatchOf.{entries_of_positions}
use Rattle.as_client.proofs.SumFacts.{entries_count}
use Rattle.as_client.proofs.batch.batch_of.Goals as goal

pub overflow_cast-result : goal.overflow_cast-result
overflow_cast-result c =
    let same : length c.as_slice.result.now ≡ length (entries_of_positions c.args.technical.now c.args.positions.now) = ap length (c.as_slice.ensures ∙ c.in_ok-entries.ensures) in
    omega (arith, same, entries_count c.args.technical.now c.args.positions.now)
