use Rattle.std.proofs.Common.{◌<◌, ◌∙◌, true, ap, length, subst, sym}
use Rattle.ready_items.specs.Found.{Found, is_whole_of, replaced}
use Rattle.ready_items.specs.Kept.{IsFound, KeepsReady, Ready}
use Rattle.ready_items.proofs.FoundFacts.{room_with}
use Rattle.ready_items.proofs.PutFacts.{batch_found, single_found, still_found}
use Rattle.ready_items.proofs.ready.ReadyItems.put_head.Goals as goal

pub returns-then-is_found-clause-found : goal.returns-then-is_found-clause-found
returns-then-is_found-clause-found c = λ J due of low cash keeps.
    let day = c.args.setting.now.day in
    let v : Ready = record { normals = c.self.inside.normals; alone = c.self.inside.alone.set; found = c.self.inside.found; touched = c.self.inside.touched; at = c.self.inside.at } in
    let inside : KeepsReady day J v = subst (KeepsReady day J) (sym c.self.view_is) keeps in
    subst (λ (w : Ready). IsFound day J c.args.a w w) c.self.view_is
    (still_found day J c.args.a c.args.money v v.found _ inside (subst (λ (w : Ready). c.args.a < length w.touched) (sym c.self.view_is) low) c.args.head of cash (c.head_candidate-new.ensures J due) (c.is_found.ensures c.if-is_found.true))

pub returns-then-is_b-clause-found : goal.returns-then-is_b-clause-found
returns-then-is_b-clause-found c = λ J due of low cash keeps.
    let day = c.args.setting.now.day in
    let v : Ready = record { normals = c.self.inside.normals; alone = c.self.inside.alone.set; found = c.self.inside.found; touched = c.self.inside.touched; at = c.self.inside.at } in
    let inside : KeepsReady day J v = subst (KeepsReady day J) (sym c.self.view_is) keeps in
    subst (λ (w : Ready). IsFound day J c.args.a w (record { normals = c.self.inside.normals; alone = c.self.inside.alone.set; found = c.put_batch.new.self; touched = c.self.inside.touched; at = c.self.inside.at })) c.self.view_is
    (batch_found day J c.args.a c.args.money v c.put_batch.new.self _ inside (subst (λ (w : Ready). c.args.a < length w.touched) (sym c.self.view_is) low) c.args.head of cash (c.head_candidate-new.ensures J due) (sym c.is_b.ensures ∙ c.if-is_b.true) c.put_batch.ensures)

pub returns-else-is_b-clause-found : goal.returns-else-is_b-clause-found
returns-else-is_b-clause-found c = λ J due of low cash keeps.
    let day = c.args.setting.now.day in
    let v : Ready = record { normals = c.self.inside.normals; alone = c.self.inside.alone.set; found = c.self.inside.found; touched = c.self.inside.touched; at = c.self.inside.at } in
    let inside : KeepsReady day J v = subst (KeepsReady day J) (sym c.self.view_is) keeps in
    subst (λ (w : Ready). IsFound day J c.args.a w (record { normals = c.self.inside.normals; alone = c.self.inside.alone.set; found = c.put.new.self; touched = c.self.inside.touched; at = c.self.inside.at })) c.self.view_is
    (single_found day J c.args.a c.args.money v c.put.new.self _ inside (subst (λ (w : Ready). c.args.a < length w.touched) (sym c.self.view_is) low) c.args.head of cash (c.head_candidate-new.ensures J due) (sym c.is_b.ensures ∙ c.if-is_b.false) c.put.ensures)

pub returns-then-is_b-clause-room : goal.returns-then-is_b-clause-room
returns-then-is_b-clause-room c =
    let found = replaced c.args.a c.head_candidate-new.result c.self.inside.found in
    ap (λ (f : Found). f.room) c.put_batch.ensures
    ∙ (room_with (is_whole_of c.args.setting.now.day found c.args.head.msg c.head_candidate-new.result) c.head_candidate-new.result found ∙ ap (λ (w : Ready). w.found.room) c.self.view_is)

pub returns-else-is_b-clause-room : goal.returns-else-is_b-clause-room
returns-else-is_b-clause-room c =
    let found = replaced c.args.a c.head_candidate-new.result c.self.inside.found in
    ap (λ (f : Found). f.room) c.put.ensures ∙ (room_with true c.head_candidate-new.result found ∙ ap (λ (w : Ready). w.found.room) c.self.view_is)
