use Rattle.std.proofs.Common.{◌∙◌, ap, subst, sym, is_some}
use Rattle.machine.specs.Telling.History.{is_ended}
use Rattle.day_facts.specs.Facts.{StandsFor}
use Rattle.settle_floor.specs.Floors.{OnFloor}
use Rattle.settle_floor.proofs.floor.Floor.has_ended.Goals as goal

pub returns : goal.returns
returns c = λ day s. c.is_some.ensures ∙ ap is_some (c.ended.ensures day (subst (λ (f : OnFloor). StandsFor day f.journal.history f.index.facts) (sym c.self.view_is) s.index.stands)) ∙ ap (λ (f : OnFloor). is_ended f.journal.history) c.self.view_is
