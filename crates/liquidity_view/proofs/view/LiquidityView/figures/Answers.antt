use Rattle.std.proofs.Common.{◌∙◌, ap, subst, sym}
use Rattle.liquidity_view.specs.Figures.{figures}
use Rattle.liquidity_view.specs.Views.{OnView, StandsFor}
use Rattle.liquidity_view.proofs.ViewLines.{figures_are}
use Rattle.liquidity_view.proofs.view.LiquidityView.figures.Goals as goal

pub returns : goal.returns
returns c = λ day J stands.
    let s = subst (StandsFor day J) (sym c.self.view_is) stands in
    c.figures_of.ensures
    ∙ figures_are day _ J _ _ _ _ _ s.sound s.queue.facts.legal s.begun s.out s.into (c.leaving.ensures.value day _ J s.queue) (c.coming.ensures.value day _ J s.queue)
    ∙ ap (λ (v : OnView). figures day v.name J) c.self.view_is
