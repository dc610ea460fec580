use Rattle.std.proofs.Common.{◌∙◌, ◌++◌, ◌∷◌, [], sym, arith}
use Rattle.std.proofs.lemmas.List.FromFn.{map-range_with_len_more}
use Rattle.lane_workers.specs.Stints.{first_of}
use Rattle.lane_workers.proofs.lanes.all_firsts.Goals as goal

pub loop-round-preserved : goal.loop-round-preserved
loop-round-preserved c =
    c.in_ok-push.ensures.items
    ∙ (λ j. c.loop-round.invariant j ++ c.first_of.ensures.first j ∷ [])
    ∙ sym (map-range_with_len_more (first_of c.args.setting.now.day) 0 c.loop-round.round c.loop-round.round (omega arith))
