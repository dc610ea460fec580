use Rattle.std.proofs.Common.{◌≡◌, ◌∙◌, ◌+◌, ◌++◌, ◌∷◌, ℕ, Bool, [], ap, arith, length}
use Rattle.std.specs.Prelude.{if◌then◌else◌}
use Rattle.std.specs.List.{flat_map, range_with_len}
use Rattle.commit_journal.specs.Histories.{oldest}
use Rattle.day_page.specs.Bars.{bar_part, batches}
use Rattle.day_page.proofs.Ranges.{numbers_next}
use Rattle.day_page.proofs.bars.batches.Goals as goal

pub loop-before-preserved : goal.loop-before-preserved
loop-before-preserved c =
    let n : ℕ = c.loop-before.before + 1 in
    let f = bar_part c.args.past.now.setting.now.day c.args.request.now (oldest c.args.past.now.journal.now.history c.args.past.now.place) in
    let part = ap (λ (b : Bool). if b then n ∷ [] else []) c.is_bar.ensures in
    record { items = c.in_ok-push_if.ensures ∙ (λ i. c.loop-before.invariant.items i ++ part i) ∙ numbers_next f c.loop-before.before }

pub returns : goal.returns
unfolding batches
returns c =
    let f = bar_part c.args.past.now.setting.now.day c.args.request.now (oldest c.args.past.now.journal.now.history c.args.past.now.place) in
    let all : c.loop-before.before ≡ length c.args.past.now.setting.now.day.messages = omega (arith, c.message_count-before-end.ensures.count) in
    c.loop-before.invariant.items ∙ ap (λ (len : ℕ). flat_map f (range_with_len 1 len)) all
