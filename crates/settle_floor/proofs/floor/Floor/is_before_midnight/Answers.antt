use Rattle.std.proofs.Common.{◌∙◌, ap, subst, sym, ℕ}
use Rattle.std.specs.Prelude.{nat_lt}
use Rattle.period_calendar.specs.declared.time.TheConstants.{MIDNIGHT}
use Rattle.machine.specs.Telling.History.{clock}
use Rattle.day_facts.specs.Facts.{StandsFor}
use Rattle.settle_floor.specs.Floors.{OnFloor}
use Rattle.settle_floor.proofs.floor.Floor.is_before_midnight.Goals as goal

pub returns : goal.returns
returns c = λ day s.
    c.is_early.ensures
    ∙ ap (λ (t : ℕ). nat_lt t MIDNIGHT) (c.clock.ensures day (subst (λ (f : OnFloor). StandsFor day f.journal.history f.index.facts) (sym c.self.view_is) s.index.stands))
    ∙ ap (λ (f : OnFloor). nat_lt (clock f.journal.history) MIDNIGHT) c.self.view_is
