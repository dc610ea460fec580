use Rattle.std.proofs.Common.{ap, arith, length}
use Rattle.live_order.proofs.Runs.Speaking.{speaks}
use Rattle.due_items.specs.declared.row.Room.{Room}
use Rattle.due_items.specs.Row.{HasRoomFor}
use Rattle.due_items.proofs.Longer.{kept_after, kept_before, number_there}
use Rattle.due_items.proofs.items.DueItems.arrive.Goals as goal

pub returns-clause-room : goal.returns-clause-room
returns-clause-room c = λ messages more enough.
    let day = c.args.setting.now.day in
    let m = enough.rows in
    let i = enough.items in
    let room : HasRoomFor day c.args.n c.args.self.now.index.row.room = (omega (arith, m), omega (arith, i)) in
    let left = c.take_up.ensures.left room in
    let left_messages = ap (λ (r : Room). r.messages) left in
    let left_items = ap (λ (r : Room). r.items) left in
    record { rows = omega (arith, m, left_messages); items = omega (arith, i, left_items) }

pub returns-clause-day : goal.returns-clause-day
returns-clause-day c = λ day m ms ss J next legal keeps.
    let whole = c.args.setting.now.day in
    let first = c.requires.room.rows in
    let rest = c.requires.room.items in
    let room : HasRoomFor whole c.args.n c.args.self.now.index.row.room = (omega (arith, first), omega (arith, rest)) in
    kept_after whole c.args.n day m ms ss J c.take_up.new.self next legal
    (c.take_up.ensures.have J (length day.messages) next.number (number_there whole c.args.n day m ms ss next) (speaks day J legal.before) room (kept_before whole c.args.n day m ms ss J c.args.self.now next legal keeps))
