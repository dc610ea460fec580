use Rattle.std.proofs.Common.{sym, subst}
use Rattle.due_items.specs.Kept.{KeepsDue}
use Rattle.due_items.proofs.FirstFacts.{first_none, first_some}
use Rattle.due_items.proofs.items.DueItems.first_at.Goals as goal

pub returns-in-Some : goal.returns-in-Some
returns-in-Some c = λ day J keeps. let inside : KeepsDue day J (record { index = c.self.inside.index; set = c.self.inside.flags.due; renewed = c.self.inside.flags.renewed; room = c.self.inside.flags.room }) = subst (KeepsDue day J) (sym c.self.view_is) keeps in
    first_some day J (record { index = c.self.inside.index; set = c.self.inside.flags.due; renewed = c.self.inside.flags.renewed; room = c.self.inside.flags.room }) c.args.from _ inside (c.place.ensures day inside.index) _ _ c.in-Some.ensures.next c.item.ensures

pub returns-in-None : goal.returns-in-None
returns-in-None c = λ day J keeps. let inside : KeepsDue day J (record { index = c.self.inside.index; set = c.self.inside.flags.due; renewed = c.self.inside.flags.renewed; room = c.self.inside.flags.room }) = subst (KeepsDue day J) (sym c.self.view_is) keeps in
    first_none day J (record { index = c.self.inside.index; set = c.self.inside.flags.due; renewed = c.self.inside.flags.renewed; room = c.self.inside.flags.room }) c.args.from _ inside (c.place.ensures day inside.index) c.in-None.ensures.next
