use Rattle.std.proofs.Common.{leb, rules}
use Rattle.std.proofs.lemmas.List.Sorted.{IsPartitionPoint-from_clause, IsPartitionedBy-leb}
use Rattle.day_facts.specs.declared.openings.Opening.{Opening}
use Rattle.day_facts.proofs.OpeningLines.{reached_point}
use Rattle.day_facts.proofs.openings.first_above.Goals as goal

pub returns : goal.returns
returns c =
    let rows = c.args.rows.now in
    let parted = IsPartitionedBy-leb (λ (row : Opening). row.end) rows c.args.t c.requires in
    let point = IsPartitionPoint-from_clause (λ (row : Opening). leb row.end c.args.t) rows _ c.partition_point.ensures.partitioned parted (λ a r q k. search rules) in
    reached_point rows c.args.t _ c.partition_point.ensures.bound point.0 point.1
