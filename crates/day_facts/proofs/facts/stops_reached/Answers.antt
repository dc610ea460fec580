use Rattle.std.proofs.Common.{ℕ, List, ◌∙◌, ap, leb, rules, subst, sym}
use Rattle.std.specs.Prelude.{count_by}
use Rattle.std.specs.List.Sorted.{IsNonDecreasingBy}
use Rattle.std.proofs.lemmas.List.Sorted.{IsPartitionPoint-from_clause, IsPartitionedBy-leb}
use Rattle.settlement_laws.proofs.Base.SoundParts.{sound_parts}
use Rattle.day_facts.proofs.Stops.{counted_point, stops_up}
use Rattle.day_facts.proofs.facts.stops_reached.Goals as goal

pub returns-clause-value : goal.returns-clause-value
returns-clause-value c =
    let day = c.args.setting.now.day in
    let stops = c.stops.result.now in
    let up = subst (λ (xs : List ℕ). IsNonDecreasingBy (λ stop. stop) xs) (sym c.stops.ensures) (stops_up 0 day.stops (sound_parts day c.args.setting.now.sound).stops) in
    let parted = IsPartitionedBy-leb (λ stop. stop) stops c.args.now up in
    let point = IsPartitionPoint-from_clause (λ stop. leb stop c.args.now) stops _ c.partition_point.ensures.partitioned parted (λ a r q k. search rules) in
    counted_point (λ stop. leb stop c.args.now) stops _ c.partition_point.ensures.bound point.0 point.1 ∙ ap (count_by (λ stop. leb stop c.args.now)) c.stops.ensures
