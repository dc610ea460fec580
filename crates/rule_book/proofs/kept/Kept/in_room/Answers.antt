use Rattle.std.proofs.Common.{◌≡◌, ◌∙◌, ◌+◌, ◌++◌, ◌∷◌, [], ap, sym, arith, length, map}
use Rattle.std.specs.List.{range_with_len}
use Rattle.std.proofs.lemmas.List.FromFn.{map-range_with_len_more}
use Rattle.rule_book.proofs.KeptFacts.{both_kept, mapped_size}
use Rattle.rule_book.proofs.kept.Kept.in_room.Goals as goal

pub push_reserved-requires : goal.push_reserved-requires
push_reserved-requires c =
    let long = ap length c.loop-before.invariant.0 ∙ mapped_size (both_kept c.args.day.now) 1 c.loop-before.before in
    omega (arith, long, ap length c.accounts-count.ensures, c.loop-before.invariant.1, c.loop-before.items.ok.0)

pub loop-before-preserved : goal.loop-before-preserved
loop-before-preserved c =
    let i = c.loop-before.before in (
      c.push_reserved.ensures.items ∙ (λ k. c.loop-before.invariant.0 k ++ c.amounts_of.ensures k ∷ []) ∙ sym (map-range_with_len_more (both_kept c.args.day.now) 1 i (i + 1) (omega arith)),
      omega (arith, c.loop-before.invariant.1, c.push_reserved.ensures.capacity),
    )

pub returns : goal.returns
returns c =
    let all : c.loop-before.before ≡ length c.args.day.now.accounts = omega (arith, ap length c.accounts-count.ensures) in
    c.loop-before.invariant.0 ∙ ap (λ n. map (both_kept c.args.day.now) (range_with_len 1 n)) all
