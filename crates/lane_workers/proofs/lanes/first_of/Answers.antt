use Rattle.std.proofs.Common.{rules, subst, sym}
use Rattle.std.specs.Prelude.{nat_lt}
use Rattle.std.specs.List.Sorted.{IsPartitionedBy}
use Rattle.std.proofs.lemmas.List.Sorted.{IsPartitionPoint-from_clause}
use Rattle.batch_records.specs.declared.day.MessageRecord.{MessageRecord}
use Rattle.lane_workers.proofs.RoundFacts.{are_partitioned_records, first_at_records}
use Rattle.lane_workers.proofs.lanes.first_of.Goals as goal

pub returns-clause-first : goal.returns-clause-first
returns-clause-first c =
    let day = c.args.setting.now.day in
    let r = c.args.round in
    let i = c.partition_point.result in
    let is = c.message_records-messages.ensures in
    let parted = subst (IsPartitionedBy (λ (m : MessageRecord). nat_lt m.round r)) (sym is) (are_partitioned_records day r c.args.setting.now.sound) in
    let point = IsPartitionPoint-from_clause (λ (m : MessageRecord). nat_lt m.round r) c.message_records-messages.result.now i c.partition_point.ensures.partitioned parted (λ a b f' k. search rules) in
    first_at_records day r i c.message_records-messages.result.now is c.args.setting.now.sound c.partition_point.ensures.bound point
