use Rattle.std.proofs.Common.{◌∙◌, subst, sym}
use Rattle.day_facts.specs.Facts.{StandsFor}
use Rattle.day_facts.proofs.Standing.{asked_stands}
use Rattle.day_facts.proofs.facts.DayFacts.asked.Goals as goal

pub returns : goal.returns
returns c = λ day J s. c.asked.ensures ∙ asked_stands day J _ c.args.n (subst (StandsFor day J) (sym c.self.view_is) s)
