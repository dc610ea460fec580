use Rattle.std.proofs.Common.{Some, subst, sym}
use Rattle.number_set.specs.Next.{IsNext}
use Rattle.ready_items.specs.Kept.{KeepsReady, Ready, is_member}
use Rattle.ready_items.specs.Room.{HasRoom}
use Rattle.ready_items.proofs.MemberFacts.{few_members, member_within}
use Rattle.ready_items.proofs.ShowFacts.{passed_by}
use Rattle.ready_items.proofs.ready.ReadyItems.pass.Goals as goal

pub returns-clause-ready : goal.returns-clause-ready
returns-clause-ready c = λ J due keeps.
    let day = c.args.setting.now.day in
    let v : Ready = record { normals = c.self.inside.normals; alone = c.self.inside.alone.set; found = c.self.inside.found; touched = c.self.inside.touched; at = c.self.inside.at } in
    let inside : KeepsReady day J v = subst (KeepsReady day J) (sym c.self.view_is) keeps in
    let next : IsNext (is_member v) v.at (Some c.args.number) = subst (λ (w : Ready). IsNext (is_member w) w.at (Some c.args.number)) (sym c.self.view_is) c.requires in
    let low = member_within day J v c.args.number inside next.passes in
    subst (λ p. KeepsReady day J (record { normals = c.self.inside.normals; alone = c.self.inside.alone.set; found = c.self.inside.found; touched = c.touch_number.new.touched; at = p })) (sym (c.behind-self-inside.ensures (few_members day c.args.setting.now.sound c.args.number low)))
    (passed_by day J v c.args.number c.touch_number.new.touched inside next (c.touch_number.ensures J due low))

pub returns-clause-at : goal.returns-clause-at
returns-clause-at c = λ J keeps. c.behind-self-inside.ensures (few_members c.args.setting.now.day c.args.setting.now.sound c.args.number (member_within c.args.setting.now.day J c.args.self.now c.args.number keeps c.requires.passes))

pub returns-clause-room : goal.returns-clause-room
returns-clause-room c = λ messages more room. (let inside = subst (HasRoom messages more) (sym c.self.view_is) room in record { rows = inside.rows; items = inside.items })
