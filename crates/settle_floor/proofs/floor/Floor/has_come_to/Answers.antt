use Rattle.std.proofs.Common.{◌∙◌, ap, subst, sym, ℕ}
use Rattle.std.specs.Prelude.{nat_le}
use Rattle.machine.specs.Telling.History.{clock}
use Rattle.day_facts.specs.Facts.{StandsFor}
use Rattle.settle_floor.specs.Floors.{OnFloor}
use Rattle.settle_floor.proofs.floor.Floor.has_come_to.Goals as goal

pub returns : goal.returns
returns c = λ day s.
    c.is_at_least.ensures
    ∙ ap (λ (t : ℕ). nat_le c.args.time t) (c.clock.ensures day (subst (λ (f : OnFloor). StandsFor day f.journal.history f.index.facts) (sym c.self.view_is) s.index.stands))
    ∙ ap (λ (f : OnFloor). nat_le c.args.time (clock f.journal.history)) c.self.view_is
