use Rattle.std.proofs.Common.{◌∙◌, subst, sym}
use Rattle.day_facts.specs.Facts.{StandsFor}
use Rattle.day_facts.proofs.Standing.{booked_stands}
use Rattle.day_facts.proofs.facts.DayFacts.booked.Goals as goal

pub returns : goal.returns
returns c = λ day J s. c.at.ensures ∙ booked_stands day J _ c.args.n c.args.k (subst (StandsFor day J) (sym c.self.view_is) s)
