use Rattle.std.proofs.Common.{◌≡◌, ◌∙◌, true, false, ap, subst, sym, refl}
use Rattle.batch_records.specs.Flat.{HaveRows, joined}
use Rattle.batch_records.specs.Held.{HeldMessages}
use Rattle.batch_records.specs.Step.{with_entry, with_last}
use Rattle.batch_records.proofs.FlatFacts.{entry_joined, entry_lost, entry_rows, is_last_batch, some_row}
use Rattle.batch_records.proofs.RoomFacts.{entry_left, held_as, room_kept, room_pushed}
use Rattle.batch_records.proofs.held.HeldMessages.push_entry_in_room.Goals as goal

pub push_in_room-requires-clause-row : goal.push_in_room-requires-clause-row
push_in_room-requires-clause-row c =
    let tested : c.is_last_batch.result ≡ is_last_batch c.self.inside.records.items = c.is_last_batch.ensures ∙ ap is_last_batch c.as_slice.ensures.value in
    some_row c.self.inside.records.items c.self.inside.entries.rows c.self.invariant.0 (sym tested ∙ c.if-is_last_batch.true)

pub push_in_room-requires-clause-room : goal.push_in_room-requires-clause-room
push_in_room-requires-clause-room c = entry_left _ _ _ c.self.inside.records.items c.self.inside.entries _ c.self.invariant.0 c.self.invariant.1 c.self.view_is c.requires

pub invariant_of-self : goal.invariant_of-self
invariant_of-self c =
    let tested : c.is_last_batch.result ≡ is_last_batch c.self.inside.records.items = c.is_last_batch.ensures ∙ ap is_last_batch c.as_slice.ensures.value in
    let last : is_last_batch c.self.inside.records.items ≡ true = sym tested ∙ c.if-is_last_batch.true in (
      subst (HaveRows c.self.inside.records.items) (sym (ap (λ r. r.rows) c.push_in_room.ensures)) (entry_rows c.args.entry c.self.inside.records.items c.self.inside.entries.rows c.self.invariant.0 last),
      room_kept _ _ _ _ _ _ refl c.push_in_room.ensures (room_pushed _ _ _ c.args.entry c.self.inside.entries (some_row c.self.inside.records.items c.self.inside.entries.rows c.self.invariant.0 last)
          (entry_left _ _ _ c.self.inside.records.items c.self.inside.entries _ c.self.invariant.0 c.self.invariant.1 c.self.view_is c.requires) c.self.invariant.1),
    )

pub returns-then-is_last_batch : goal.returns-then-is_last_batch
returns-then-is_last_batch c =
    let tested : c.is_last_batch.result ≡ is_last_batch c.self.inside.records.items = c.is_last_batch.ensures ∙ ap is_last_batch c.as_slice.ensures.value in
    let last : is_last_batch c.self.inside.records.items ≡ true = sym tested ∙ c.if-is_last_batch.true in
    held_as _ _ _ _ (ap (joined c.self.inside.records.items) (ap (λ r. r.rows) c.push_in_room.ensures) ∙ entry_joined c.args.entry c.self.inside.records.items c.self.inside.entries.rows c.self.invariant.0 last)
    ∙ ap (λ (h : HeldMessages). record h { list = with_last (with_entry c.args.entry) h.list }) c.self.view_is

pub returns-else-is_last_batch : goal.returns-else-is_last_batch
returns-else-is_last_batch c =
    let tested : c.is_last_batch.result ≡ is_last_batch c.self.inside.records.items = c.is_last_batch.ensures ∙ ap is_last_batch c.as_slice.ensures.value in
    let last : is_last_batch c.self.inside.records.items ≡ false = sym tested ∙ c.if-is_last_batch.false in
    sym c.self.view_is
    ∙ held_as _ _ _ _ (entry_lost c.args.entry c.self.inside.records.items c.self.inside.entries.rows c.self.invariant.0 last)
    ∙ ap (λ (h : HeldMessages). record h { list = with_last (with_entry c.args.entry) h.list }) c.self.view_is
