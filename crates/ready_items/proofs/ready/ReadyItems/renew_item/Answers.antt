use Rattle.std.proofs.Common.{◌≡◌, ◌∙◌, ap, subst, sym}
use Rattle.ready_items.specs.Goes.{by_itself}
use Rattle.ready_items.specs.Kept.{Fits, Ready}
use Rattle.ready_items.specs.Noting.{Renews}
use Rattle.ready_items.proofs.NoteFacts.{renews_this}
use Rattle.ready_items.proofs.ready.ReadyItems.renew_item.Goals as goal

pub returns-clause-renews : goal.returns-clause-renews
returns-clause-renews c = λ K stands low at fits.
    let day = c.args.setting.now.day in
    let v : Ready = record { normals = c.self.inside.normals; alone = c.self.inside.alone.set; found = c.self.inside.found; touched = c.self.inside.touched; at = c.self.inside.at } in
    let inside = subst (Fits day) (sym c.self.view_is) fits in
    subst (λ (w : Ready). Renews day K (λ j. j ≡ c.args.i) w (record { normals = c.put_normal.new.normals; alone = c.set_number.new.set.set; found = c.self.inside.found; touched = c.touch_item.new.touched; at = c.self.inside.at })) c.self.view_is
    (renews_this day K c.args.i c.args.item c.by_itself.result c.put_normal.new.normals c.set_number.new.set.set c.touch_item.new.touched v low at inside (c.by_itself.ensures K stands ∙ ap (by_itself day K) at) c.set_number.ensures.set c.touch_item.ensures (c.put_normal.ensures.puts K stands low at inside.payments))

pub returns-clause-room : goal.returns-clause-room
returns-clause-room c = record { rows = c.put_normal.ensures.room ∙ ap (λ (v : Ready). v.normals.room) c.self.view_is; items = ap (λ (v : Ready). v.found.room) c.self.view_is }

pub invariant_of-self : goal.invariant_of-self
invariant_of-self c = c.set_number.ensures.room ∙ c.self.invariant
