use Rattle.std.proofs.Common.{◌∷◌, List, refl, subst, sym}
use Rattle.commit_journal.specs.declared.line.Move.{Move}
use Rattle.ready_items.specs.Kept.{KeepsReady, Ready}
use Rattle.ready_items.specs.Noting.{TouchesMoves}
use Rattle.ready_items.specs.Room.{HasRoom}
use Rattle.ready_items.proofs.NoteFacts.{note_keeps, touched_fits}
use Rattle.ready_items.proofs.Room.{room_stays}
use Rattle.ready_items.proofs.ready.ReadyItems.note.Goals as goal

pub returns-clause-ready : goal.returns-clause-ready
returns-clause-ready c = λ J l moves stands due tells keeps.
    let day = c.args.setting.now.day in
    let v : Ready = record { normals = c.self.inside.normals; alone = c.self.inside.alone.set; found = c.self.inside.found; touched = c.self.inside.touched; at = c.self.inside.at } in
    let w : Ready = record { normals = c.self.inside.normals; alone = c.self.inside.alone.set; found = c.self.inside.found; touched = c.touch_moves.new.touched; at = c.self.inside.at } in
    let inside : KeepsReady day J v = subst (KeepsReady day J) (sym c.self.view_is) keeps in
    let moved : TouchesMoves l.moves v.touched w.touched = subst (λ (ms : List Move). TouchesMoves ms v.touched w.touched) (sym moves) c.touch_moves.ensures in
    note_keeps day J l stands.legal c.args.due.now.renewed tells v w c.renew_told.new.self inside moved refl (c.renew_told.ensures.ready (l ∷ J) stands due (touched_fits day v w.touched inside.fits moved.grows.size))

pub returns-clause-room : goal.returns-clause-room
returns-clause-room c = λ messages more room.
    let w : Ready = record { normals = c.self.inside.normals; alone = c.self.inside.alone.set; found = c.self.inside.found; touched = c.touch_moves.new.touched; at = c.self.inside.at } in
    let inside = subst (HasRoom messages more) (sym c.self.view_is) room in
    room_stays w c.renew_told.new.self c.renew_told.ensures.room messages more (record { rows = inside.rows; items = inside.items })
