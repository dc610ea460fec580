use Rattle.std.proofs.Common.{◌≡◌, ◌-◌, List, arith, drop, length, rules, subst, sym, take, take_all}
use Rattle.std.specs.Prelude.{false, nat_le, nat_lt, true}
use Rattle.std.specs.List.Sorted.{IsPartitionPoint}
use Rattle.std.proofs.lemmas.List.{length-drop}
use Rattle.std.proofs.lemmas.List.Sorted.{IsNonDecreasingBy-drop, IsPartitionPoint-from_clause, IsPartitionedBy-leb, IsPartitionedBy-ltb}
use Rattle.day_page.specs.declared.courses.Point.{Point}
use Rattle.day_page.specs.Rows.{AreByAccount, HaveAllOf}
use Rattle.day_page.proofs.RowFacts.{have_all}
use Rattle.day_page.proofs.balances.points_of.Goals as goal

pub returns : goal.returns
returns c =
    let a = c.args.account in
    let xs = c.args.points.now in
    let from = c.partition_point-from.result in
    let count = c.partition_point-count.result in
    let later : List Point = take (length xs - from) (drop from xs) in
    let size : length (drop from xs) ≡ length xs - from = length-drop from xs in
    let all : later ≡ drop from xs = take_all (length xs - from) (drop from xs) (omega (arith, size)) in
    let lower = IsPartitionPoint-from_clause (λ (p : Point). nat_lt p.account a) xs from c.partition_point-from.ensures.partitioned (IsPartitionedBy-ltb (λ (p : Point). p.account) xs a c.requires) (λ p b f' k. search rules) in
    let rise : AreByAccount later = subst AreByAccount (sym all) (IsNonDecreasingBy-drop (λ (p : Point). p.account) from xs c.requires) in
    let upper = IsPartitionPoint-from_clause (λ (p : Point). nat_le p.account a) later count c.partition_point-count.ensures.partitioned (IsPartitionedBy-leb (λ (p : Point). p.account) later a rise) (λ p b f' k. search rules) in
    subst (λ (ys : List Point). HaveAllOf a xs (take count ys)) (sym all)
    (have_all a from count xs lower (subst (λ (ys : List Point). IsPartitionPoint (λ (p : Point). nat_le p.account a ≡ true) (λ (p : Point). nat_le p.account a ≡ false) ys count) all upper))
