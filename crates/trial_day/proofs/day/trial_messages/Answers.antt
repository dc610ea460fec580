use Rattle.std.proofs.Common.{◌≡◌, ◌+◌, ◌-◌, ◌*◌, [], ap, arith, refl, ◌∙◌}
use Rattle.trial_day.specs.Trial.{number_behind, trial_message}
use Rattle.trial_day.proofs.Making.{more_items, behind_more}
use Rattle.trial_day.proofs.day.trial_messages.Goals as goal

pub loop-before-init : goal.loop-before-init
unfolding number_behind
loop-before-init c = record { messages = c.new-messages.ensures; number = refl; within = c.requires.seed }

pub loop-before-preserved : goal.loop-before-preserved
loop-before-preserved c =
    let same : 12 * c.loop-before.before ≡ 12 * (c.loop-before.before + 1 - 1) = omega arith in
    let next : 12 * c.loop-before.before + 12 ≡ 12 * (c.loop-before.before + 1) = omega arith in
    record {
      messages = more_items (trial_message c.args.seed) [] c.loop-before.before _ _ _ c.loop-before.invariant.messages (c.in_ok-drawn.ensures.message c.args.seed (c.loop-before.invariant.number ∙ ap (number_behind c.args.seed) same)) c.in_ok-push_batch.ensures;
      number = c.in_ok-drawn.ensures.number ∙ ap (λ x. number_behind x 12) c.loop-before.invariant.number ∙ behind_more c.args.seed (12 * c.loop-before.before) 12 ∙ ap (number_behind c.args.seed) next;
      within = c.in_ok-drawn.ensures.small;
    }
