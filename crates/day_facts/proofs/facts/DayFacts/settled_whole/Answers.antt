use Rattle.std.proofs.Common.{◌∙◌, subst, sym}
use Rattle.day_facts.specs.Facts.{StandsFor}
use Rattle.day_facts.proofs.Standing.{whole_stands}
use Rattle.day_facts.proofs.facts.DayFacts.settled_whole.Goals as goal

pub returns : goal.returns
returns c = λ day J s. c.settled_whole.ensures ∙ whole_stands day J _ c.args.n (subst (StandsFor day J) (sym c.self.view_is) s)
