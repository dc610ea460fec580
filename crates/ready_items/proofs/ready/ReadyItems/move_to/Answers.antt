use Rattle.std.proofs.Common.{subst, sym}
use Rattle.ready_items.specs.Kept.{KeepsReady}
use Rattle.ready_items.specs.Room.{HasRoom}
use Rattle.ready_items.proofs.ShowFacts.{moved_keeps}
use Rattle.ready_items.proofs.ready.ReadyItems.move_to.Goals as goal

pub returns-clause-ready : goal.returns-clause-ready
returns-clause-ready c = λ day J keeps.
    moved_keeps day J (record { normals = c.self.inside.normals; alone = c.self.inside.alone.set; found = c.self.inside.found; touched = c.self.inside.touched; at = c.self.inside.at }) c.touch_all.new.touched c.args.number
    (subst (KeepsReady day J) (sym c.self.view_is) keeps) c.touch_all.ensures

pub returns-clause-room : goal.returns-clause-room
returns-clause-room c = λ messages more room. (let inside = subst (HasRoom messages more) (sym c.self.view_is) room in record { rows = inside.rows; items = inside.items })
