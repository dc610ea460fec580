use Rattle.std.proofs.Common.{◌∙◌, ap, subst, sym}
use Rattle.machine.specs.Orders.Hints.{hint}
use Rattle.day_facts.specs.Facts.{StandsFor}
use Rattle.due_items.specs.Kept.{KeepsDue}
use Rattle.settle_floor.specs.Floors.{OnFloor}
use Rattle.settle_floor.proofs.indexed.Indexed.hint.Goals as goal

pub returns : goal.returns
returns c =
    let day = c.args.setting.now.day in
    c.hint.ensures c.self.inside.journal.history
    (subst (λ (f : OnFloor). StandsFor day f.journal.history f.index.facts) (sym c.self.view_is) c.requires.stands)
    (subst (λ (f : OnFloor). KeepsDue day f.journal.history f.index.due) (sym c.self.view_is) c.requires.due)
    ∙ ap (λ (f : OnFloor). hint day f.journal.history c.args.from) c.self.view_is
