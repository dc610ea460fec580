use Rattle.std.proofs.Common.{◌∙◌, ap, subst, sym, ℕ}
use Rattle.std.specs.Prelude.{nat_lt, if◌then◌else◌}
use Rattle.period_calendar.specs.declared.time.TheConstants.{MIDNIGHT}
use Rattle.commit_journal.specs.declared.line.Want.TheVariants as wants
use Rattle.machine.specs.Orders.Order.{time_want}
use Rattle.day_facts.specs.Facts.{StandsFor}
use Rattle.settle_floor.specs.Floors.{OnFloor}
use Rattle.settle_floor.proofs.floor.Floor.time_want.Goals as goal

pub returns : goal.returns
returns c = λ day s.
    c.time_or_end.ensures
    ∙ ap (λ (t : ℕ). if nat_lt t MIDNIGHT then wants.Time else wants.End) (c.clock.ensures day (subst (λ (f : OnFloor). StandsFor day f.journal.history f.index.facts) (sym c.self.view_is) s.index.stands))
    ∙ ap (λ (f : OnFloor). time_want f.journal.history) c.self.view_is
