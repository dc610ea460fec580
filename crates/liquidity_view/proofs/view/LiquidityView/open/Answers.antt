use Rattle.std.proofs.Common.{◌∙◌, ap, sym}
use Rattle.liquidity_view.specs.declared.sides.Side.TheVariants as sides
use Rattle.liquidity_view.specs.Figures.{begun_with}
use Rattle.liquidity_view.proofs.ViewLines.{none_settled}
use Rattle.liquidity_view.proofs.view.LiquidityView.open.Goals as goal

pub returns-in-Ok-clause-stands : goal.returns-in-Ok-clause-stands
returns-in-Ok-clause-stands c =
    let day = c.args.setting.now.day in
    record {
      sound = c.args.setting.now.sound;
      queue = c.in-Ok.ensures _;
      begun = c.begun_with.ensures.value ∙ ap (begun_with day) (sym c.copy.ensures);
      out = none_settled sides.Out day _;
      into = none_settled sides.In day _;
    }
