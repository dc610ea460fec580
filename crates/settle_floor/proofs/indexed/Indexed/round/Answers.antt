use Rattle.std.proofs.Common.{◌∙◌, ap, subst, sym}
use Rattle.machine.specs.Telling.Facts.{round}
use Rattle.day_facts.specs.Facts.{StandsFor}
use Rattle.settle_floor.specs.Floors.{OnFloor}
use Rattle.settle_floor.proofs.indexed.Indexed.round.Goals as goal

pub returns : goal.returns
returns c = λ day s. c.round.ensures day c.self.inside.journal.history (subst (λ (f : OnFloor). StandsFor day f.journal.history f.index.facts) (sym c.self.view_is) s) ∙ ap (λ (f : OnFloor). round day f.journal.history) c.self.view_is
