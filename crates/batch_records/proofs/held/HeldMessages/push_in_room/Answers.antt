use Rattle.std.proofs.Common.{◌≡◌, ◌∙◌, ◌<◌, ◌∷◌, ◌++◌, [], ap, arith}
use Rattle.batch_records.specs.Flat.{with_entries}
use Rattle.batch_records.specs.Held.{HeldMessages}
use Rattle.batch_records.proofs.FlatFacts.{pushed_joined, pushed_rows}
use Rattle.batch_records.proofs.RoomFacts.{held_as, held_most, room_begun, room_kept, row_left}
use Rattle.batch_records.proofs.held.HeldMessages.push_in_room.Goals as goal

pub begin_row_in_room-requires : goal.begin_row_in_room-requires
begin_row_in_room-requires c = (row_left _ _ _ c.self.inside.records.items c.self.inside.entries c.self.invariant.0 c.self.invariant.1 (held_most c.self.inside.records.items c.self.inside.entries.rows _ _ _ c.self.view_is c.requires)).0

pub push_reserved-requires : goal.push_reserved-requires
push_reserved-requires c =
    let low = (row_left _ _ _ c.self.inside.records.items c.self.inside.entries c.self.invariant.0 c.self.invariant.1 (held_most c.self.inside.records.items c.self.inside.entries.rows _ _ _ c.self.view_is c.requires)).1 in
    omega (arith, low, c.self.inside.records.ok.0)

pub invariant_of-self : goal.invariant_of-self
invariant_of-self c =
    let low = row_left _ _ _ c.self.inside.records.items c.self.inside.entries c.self.invariant.0 c.self.invariant.1 (held_most c.self.inside.records.items c.self.inside.entries.rows _ _ _ c.self.view_is c.requires) in (
      pushed_rows c.self.inside.records.items c.push_reserved.new.self.items c.self.inside.entries.rows c.begin_row_in_room.new.self.rows c.args.message c.self.invariant.0 c.push_reserved.ensures.items (ap (λ r. r.rows) c.begin_row_in_room.ensures),
      room_kept _ _ _ _ _ _ c.push_reserved.ensures.capacity c.begin_row_in_room.ensures (room_begun _ _ _ c.self.inside.entries low.0 c.self.invariant.1),
    )

pub returns : goal.returns
returns c =
    held_as _ _ _ _ (pushed_joined c.self.inside.records.items c.push_reserved.new.self.items c.self.inside.entries.rows c.begin_row_in_room.new.self.rows c.args.message c.self.invariant.0 c.push_reserved.ensures.items (ap (λ r. r.rows) c.begin_row_in_room.ensures))
    ∙ ap (λ (h : HeldMessages). record h { list = h.list ++ with_entries c.args.message [] ∷ [] }) c.self.view_is
