use Rattle.std.proofs.Common.{◌∙◌, subst, sym}
use Rattle.day_facts.specs.Facts.{StandsFor}
use Rattle.day_facts.proofs.Standing.{answer_stands}
use Rattle.day_facts.proofs.facts.DayFacts.answer.Goals as goal

pub returns : goal.returns
returns c = λ day J s. c.answer.ensures ∙ answer_stands day J _ c.args.n (subst (StandsFor day J) (sym c.self.view_is) s)
