use Rattle.std.proofs.Common.{◌+◌, ◌≤◌, ◌∷◌, [], ℕ, ap, arith, length, refl, subst, sym}
use Rattle.machine.specs.Records.Messages.{entries}
use Rattle.live_order.specs.Longer.{longer}
use Rattle.pending_items.specs.Items.{Lists}
use Rattle.pending_items.specs.Kept.{KeepsPending, KeptItems}
use Rattle.pending_items.specs.Room.{HasRoom}
use Rattle.pending_items.proofs.Longer.{pending_arrives}
use Rattle.pending_items.proofs.items.PendingItems.arrive.Goals as goal

pub arrive-requires-clause-messages : goal.arrive-requires-clause-messages
arrive-requires-clause-messages c = subst (λ (v : KeptItems). 1 ≤ v.rows.room) (sym c.self.view_is) c.requires.room.rows

pub arrive-requires-clause-items : goal.arrive-requires-clause-items
arrive-requires-clause-items c =
    let items = subst (λ (v : KeptItems). 1 + length (entries c.args.setting.now.day c.args.n) ≤ v.rows.queue.room) (sym c.self.view_is) c.requires.room.items in
    omega (arith, items)

pub end_arrives-requires : goal.end_arrives-requires
end_arrives-requires c =
    let ends = subst (λ (v : KeptItems). 1 ≤ v.room) (sym c.self.view_is) c.requires.room.ends in
    omega (arith, ends)

pub returns-clause-room : goal.returns-clause-room
returns-clause-room c = λ messages more enough.
    let size : ℕ = length (entries c.args.setting.now.day c.args.n) in
    let old : HasRoom (messages + 1) (more + size) (record { rows = c.self.inside.rows; ends = c.self.inside.ends.times; batches = c.self.inside.batches; room = c.self.inside.ends.room }) = subst (HasRoom (messages + 1) (more + size)) (sym c.self.view_is) enough in
    let r = old.rows in
    let i = old.items in
    let e = old.ends in
    let b = old.blocks in
    let rows = ap (λ (v : Lists). v.room) c.arrive.ensures.rows in
    let items = ap (λ (v : Lists). v.queue.room) c.arrive.ensures.rows in
    let ends = c.end_arrives.ensures.room in
    let long = c.end_arrives.ensures.long in
    record { rows = omega (arith, r, rows); items = omega (arith, i, items); ends = omega (arith, e, ends); blocks = omega (arith, b, long) }

pub returns-clause-day : goal.returns-clause-day
returns-clause-day c = λ day m ms ss J next legal stands k.
    let whole = c.args.setting.now.day in
    let v : KeptItems = record { rows = c.self.inside.rows; ends = c.self.inside.ends.times; batches = c.self.inside.batches; room = c.self.inside.ends.room } in
    let blocks : length v.ends + 1 ≤ v.batches.size = subst (λ (w : KeptItems). length w.ends + 1 ≤ w.batches.size) (sym c.self.view_is) c.requires.room.blocks in
    pending_arrives whole c.args.n day m ms ss J v (record { rows = c.arrive.new.self; ends = c.end_arrives.new.ends.times; batches = c.self.inside.batches; room = c.end_arrives.new.ends.room }) next legal c.arrive.ensures.rows c.arrive.ensures.few refl blocks
    (λ a. c.end_arrives.ensures.ends J (length day.messages) next.number (c.clock.ensures (longer day (m ∷ []) []) J stands) a)
    (subst (KeepsPending day J) (sym c.self.view_is) k)
