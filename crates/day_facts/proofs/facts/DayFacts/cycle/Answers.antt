use Rattle.std.proofs.Common.{◌∙◌, subst, sym}
use Rattle.day_facts.specs.Facts.{StandsFor}
use Rattle.day_facts.proofs.Standing.{cycle_stands}
use Rattle.day_facts.proofs.facts.DayFacts.cycle.Goals as goal

pub returns : goal.returns
returns c = λ J s. c.cycle.ensures ∙ cycle_stands c.args.setting.now.day J _ c.args.system.now (subst (StandsFor c.args.setting.now.day J) (sym c.self.view_is) s)
