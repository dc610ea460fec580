use Rattle.std.proofs.Common.{None, subst, sym}
use Rattle.number_set.specs.Next.{IsNext}
use Rattle.ready_items.specs.Kept.{IsRenewed, KeepsReady, Ready, is_member}
use Rattle.ready_items.specs.Room.{HasRoom}
use Rattle.ready_items.proofs.ShowFacts.{turned_keeps}
use Rattle.ready_items.proofs.ready.ReadyItems.turn_back.Goals as goal

pub returns-clause-ready : goal.returns-clause-ready
returns-clause-ready c = λ day J keeps.
    turned_keeps day J (record { normals = c.self.inside.normals; alone = c.self.inside.alone.set; found = c.self.inside.found; touched = c.self.inside.touched; at = c.self.inside.at })
    (subst (KeepsReady day J) (sym c.self.view_is) keeps) (subst (λ (v : Ready). IsNext (is_member v) v.at None) (sym c.self.view_is) c.requires)

pub returns-clause-renewed : goal.returns-clause-renewed
returns-clause-renewed c = λ renewed. subst IsRenewed (sym c.self.view_is) renewed

pub returns-clause-room : goal.returns-clause-room
returns-clause-room c = λ messages more room. (let inside = subst (HasRoom messages more) (sym c.self.view_is) room in record { rows = inside.rows; items = inside.items })
