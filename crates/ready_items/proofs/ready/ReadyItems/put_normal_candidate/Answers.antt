use Rattle.std.proofs.Common.{◌∙◌, ◌<◌, true, ap, length, subst, sym}
use Rattle.scan_laws.specs.Candidates.{IsFirstRound}
use Rattle.ready_items.specs.Normals.{goes_normal}
use Rattle.ready_items.specs.Found.{Found, replaced}
use Rattle.ready_items.specs.Kept.{IsFound, KeepsReady, Ready}
use Rattle.ready_items.proofs.FoundFacts.{room_with}
use Rattle.ready_items.proofs.PutFacts.{normal_found}
use Rattle.ready_items.proofs.ready.ReadyItems.put_normal_candidate.Goals as goal

pub returns-clause-found : goal.returns-clause-found
returns-clause-found c = λ J none low cash keeps.
    let day = c.args.setting.now.day in
    let v : Ready = record { normals = c.self.inside.normals; alone = c.self.inside.alone.set; found = c.self.inside.found; touched = c.self.inside.touched; at = c.self.inside.at } in
    let inside : KeepsReady day J v = subst (KeepsReady day J) (sym c.self.view_is) keeps in
    subst (λ (w : Ready). IsFound day J c.args.a w (record { normals = c.self.inside.normals; alone = c.self.inside.alone.set; found = c.put.new.self; touched = c.self.inside.touched; at = c.self.inside.at })) c.self.view_is
    (normal_found day J c.args.a c.args.money v c.put.new.self _ inside (subst (λ (w : Ready). c.args.a < length w.touched) (sym c.self.view_is) low) cash none (subst (λ (w : Ready). IsFirstRound (goes_normal day J c.args.a c.args.money) w.at c.normal_candidate-new.result) (sym c.self.view_is) (c.normal_candidate-new.ensures J keeps)) c.put.ensures)

pub returns-clause-room : goal.returns-clause-room
returns-clause-room c = ap (λ (f : Found). f.room) c.put.ensures ∙ (room_with true c.normal_candidate-new.result (replaced c.args.a c.normal_candidate-new.result c.self.inside.found) ∙ ap (λ (w : Ready). w.found.room) c.self.view_is)

pub invariant_of-self : goal.invariant_of-self
invariant_of-self c = c.self.invariant ∙ sym (ap (λ (f : Found). f.room) c.put.ensures ∙ room_with true c.normal_candidate-new.result (replaced c.args.a c.normal_candidate-new.result c.self.inside.found))
