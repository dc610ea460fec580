use Rattle.std.proofs.Common.{◌≡◌, ◌∙◌, ap, [], ◌∷◌}
use Rattle.trial_day.specs.Trial.{number_behind, trio_behind}
use Rattle.trial_day.proofs.draws.trios_behind.Goals as goal

pub returns-clause-trios : goal.returns-clause-trios
unfolding number_behind
returns-clause-trios c =
    let third : c.trio_behind-x.result.1 ≡ number_behind c.args.x 3 = c.trio_behind-x.ensures.number in
    let sixth : c.trio_behind-x-2.result.1 ≡ number_behind c.args.x 6 = c.trio_behind-x-2.ensures.number ∙ ap (λ y. number_behind y 3) third in
    let ninth : c.trio_behind-x-3.result.1 ≡ number_behind c.args.x 9 = c.trio_behind-x-3.ensures.number ∙ ap (λ y. number_behind y 3) sixth in
    λ i. c.trio_behind-x.ensures.trio i
    ∷ (c.trio_behind-x-2.ensures.trio ∙ ap trio_behind third) i
    ∷ (c.trio_behind-x-3.ensures.trio ∙ ap trio_behind sixth) i
    ∷ (c.trio_behind-x-4.ensures.trio ∙ ap trio_behind ninth) i
    ∷ []
