use Rattle.std.proofs.Common.{◌∙◌, ap, subst, sym}
use Rattle.day_facts.specs.Facts.{StandsFor}
use Rattle.day_facts.specs.Rows.{count_in}
use Rattle.day_facts.proofs.PhaseFacts.{debits_stand}
use Rattle.day_facts.proofs.facts.DayFacts.debits_left.Goals as goal

pub returns : goal.returns
returns c = λ day J s. c.count.ensures ∙ ap (λ rows. count_in rows c.args.n) c.debits.ensures ∙ debits_stand day J _ c.args.n (subst (StandsFor day J) (sym c.self.view_is) s)
