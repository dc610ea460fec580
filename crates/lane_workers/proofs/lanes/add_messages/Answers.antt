use Rattle.std.proofs.Common.{◌∙◌, ◌++◌, ◌∷◌, ◌-◌, Bool, [], List, ℕ, ap, sym, append_assoc}
use Rattle.std.specs.Prelude.{filter, if◌then◌else◌, nat_eq, slice_index}
use Rattle.std.specs.List.{range_with_len}
use Rattle.lane_workers.proofs.Ranges.{filter_more}
use Rattle.lane_workers.proofs.lanes.add_messages.Goals as goal

pub loop-n-preserved : goal.loop-n-preserved
loop-n-preserved c =
    let n = c.loop-n.n in
    let first = c.args.first in
    let test : ℕ → Bool = λ k. nat_eq (slice_index c.args.lanes.now (k - 1)) c.args.lane in
    let before : List ℕ = c.args.order.now.items in
    c.in_ok-push_if.ensures
    ∙ (λ j. c.loop-n.invariant j ++ (if c.is_in.ensures j then n ∷ [] else []))
    ∙ append_assoc before (filter test (range_with_len first (n - first))) (if test n then n ∷ [] else [])
    ∙ ap (λ (xs : List ℕ). before ++ xs) (sym (filter_more test first n c.loop-n.auto.n))
