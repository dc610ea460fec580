use Rattle.std.proofs.Common.{◌≡◌, ◌∙◌, ◌-◌, ◌<◌, take, length, ap, arith}
use Rattle.batch_records.specs.Flat.{joined}
use Rattle.batch_records.specs.Held.{HeldMessages}
use Rattle.batch_records.proofs.FlatFacts.{dropped_joined, dropped_rows, joined_length, rows_length}
use Rattle.batch_records.proofs.RoomFacts.{held_as, room_kept, room_without}
use Rattle.batch_records.proofs.held.HeldMessages.drop_last.Goals as goal

pub drop_last_row-requires : goal.drop_last_row-requires
drop_last_row-requires c =
    let size : length (joined c.self.inside.records.items c.self.inside.entries.rows) ≡ length c.args.self.now.list = ap (λ (h : HeldMessages). length h.list) c.self.view_is in
    omega (arith, c.requires, size, joined_length c.self.inside.records.items c.self.inside.entries.rows, rows_length c.self.inside.records.items c.self.inside.entries.rows c.self.invariant.0)

pub overflow_sub-len : goal.overflow_sub-len
overflow_sub-len c =
    let size : length (joined c.self.inside.records.items c.self.inside.entries.rows) ≡ length c.args.self.now.list = ap (λ (h : HeldMessages). length h.list) c.self.view_is in
    omega (arith, c.requires, size, joined_length c.self.inside.records.items c.self.inside.entries.rows, c.len.ensures, c.self.inside.records.ok.0)

pub invariant_of-self : goal.invariant_of-self
invariant_of-self c =
    let size : length (joined c.self.inside.records.items c.self.inside.entries.rows) ≡ length c.args.self.now.list = ap (λ (h : HeldMessages). length h.list) c.self.view_is in
    let some : 0 < length c.self.inside.entries.rows = omega (arith, c.requires, size, joined_length c.self.inside.records.items c.self.inside.entries.rows, rows_length c.self.inside.records.items c.self.inside.entries.rows c.self.invariant.0) in (
      dropped_rows c.self.inside.records.items c.truncate.new.self.items c.self.inside.entries.rows c.drop_last_row.new.self.rows c.len.result c.self.invariant.0 (c.len.ensures ∙ c.self.inside.records.ok.0) c.truncate.ensures.items (ap (λ r. r.rows) c.drop_last_row.ensures),
      room_kept _ _ _ _ _ _ c.truncate.ensures.capacity c.drop_last_row.ensures (room_without _ _ _ c.self.inside.entries some c.self.invariant.1),
    )

pub returns : goal.returns
returns c =
    held_as _ _ _ _ (dropped_joined c.self.inside.records.items c.truncate.new.self.items c.self.inside.entries.rows c.drop_last_row.new.self.rows c.len.result c.self.invariant.0 (c.len.ensures ∙ c.self.inside.records.ok.0) c.truncate.ensures.items (ap (λ r. r.rows) c.drop_last_row.ensures))
    ∙ ap (λ (h : HeldMessages). record h { list = take (length h.list - 1) h.list }) c.self.view_is
