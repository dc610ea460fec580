use Rattle.std.proofs.Common.{◌∙◌, false, ap, subst, sym}
use Rattle.std.specs.Prelude.{slice_set}
use Rattle.ready_items.specs.Kept.{IsFound, Ready}
use Rattle.ready_items.proofs.PutFacts.{account_renewed}
use Rattle.ready_items.proofs.Room.{room_stays}
use Rattle.ready_items.proofs.ready.ReadyItems.renew_account.Goals as goal

pub returns-clause-ready : goal.returns-clause-ready
returns-clause-ready c = λ J due pending cash keeps.
    let day = c.args.setting.now.day in
    let mid : Ready = record { normals = c.self.inside.normals; alone = c.self.inside.alone.set; found = c.self.inside.found; touched = c.self.inside.touched; at = c.self.inside.at } in
    account_renewed day J c.args.a c.args.self.now mid c.set_member.new.set c.requires.within keeps
    (subst (IsFound day J c.args.a c.args.self.now) (sym c.self.view_is) (c.put_candidate.ensures.found J due pending c.requires.within cash keeps)) c.set_member.ensures

pub returns-clause-renewed : goal.returns-clause-renewed
returns-clause-renewed c = c.set_member.ensures ∙ ap (λ (v : Ready). slice_set v.touched c.args.a false) (c.self.view_is ∙ c.put_candidate.ensures.same)

pub returns-clause-still : goal.returns-clause-still
returns-clause-still c = ap (λ (v : Ready). v.at) (c.self.view_is ∙ c.put_candidate.ensures.same)

pub returns-clause-room : goal.returns-clause-room
returns-clause-room c =
    let mid : Ready = record { normals = c.self.inside.normals; alone = c.self.inside.alone.set; found = c.self.inside.found; touched = c.self.inside.touched; at = c.self.inside.at } in
    room_stays c.args.self.now (record mid { touched = c.set_member.new.set }) (record {
      rows = ap (λ (v : Ready). v.normals.room) (c.self.view_is ∙ c.put_candidate.ensures.same);
      items = ap (λ (v : Ready). v.found.room) c.self.view_is ∙ c.put_candidate.ensures.room;
    })
