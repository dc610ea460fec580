use Rattle.std.proofs.Common.{ltb, rules, arith}
use Rattle.std.proofs.lemmas.Bool.{ltb-false, ltb-true}
use Rattle.std.proofs.lemmas.List.Sorted.{IsNonDecreasingBy-from_sort, IsPartitionPoint-from_clause, IsPartitionedBy-ltb}
use Rattle.rule_book.proofs.parties.place.Goals as goal

pub returns-clause-place : goal.returns-clause-place
returns-clause-place c = λ sorted.
    let keys = c.args.keys.now in
    let x = c.args.key in
    let parted = IsPartitionedBy-ltb (λ y. y) keys x (IsNonDecreasingBy-from_sort (λ y. y) keys sorted) in
    let point = IsPartitionPoint-from_clause (λ y. ltb y x) keys _ c.partition_point.ensures.partitioned parted (λ a r q k. search rules) in
    record {
      within = c.partition_point.ensures.bound;
      less = λ j l. ltb-true _ x (point.0 j 0 (omega arith) l);
      others = λ j l w. ltb-false _ x (point.1 j 0 l w);
    }
