use Rattle.std.proofs.Common.{subst, sym}
use Rattle.day_facts.specs.Facts.{StandsFor}
use Rattle.due_items.specs.Kept.{KeepsDue}
use Rattle.settle_floor.specs.Floors.{OnFloor}
use Rattle.settle_floor.proofs.floor.Floor.hint.Goals as goal

pub hint-requires-clause-stands : goal.hint-requires-clause-stands
hint-requires-clause-stands c =
    subst (λ (f : OnFloor). StandsFor c.args.setting.now.day f.journal.history f.index.facts) (sym c.self.view_is) c.requires.opened.index.stands

pub hint-requires-clause-due : goal.hint-requires-clause-due
hint-requires-clause-due c =
    subst (λ (f : OnFloor). KeepsDue c.args.setting.now.day f.journal.history f.index.due) (sym c.self.view_is) c.requires.opened.index.due
