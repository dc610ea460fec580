use Rattle.std.proofs.Common.{ap, arith, ◌∙◌}
use Rattle.std.proofs.lemmas.List.{length-set}
use Rattle.payment_queue.specs.Queued.{Queued}
use Rattle.pending_items.specs.Items.{Lists, slot_at}
use Rattle.pending_items.proofs.SoundFacts.{row_stands, sound_left}
use Rattle.pending_items.proofs.rows.ItemRows.leave.Goals as goal

pub leave_at-requires : goal.leave_at-requires
leave_at-requires c = row_stands _ c.self.invariant.0 c.args.number c.args.slot (ap (λ (w : Lists). slot_at w.slots c.args.number) c.self.view_is ∙ c.requires)

pub invariant_of-self : goal.invariant_of-self
invariant_of-self c =
    let starts = c.self.invariant.1 in
    let slots = c.self.invariant.2 in
    let few = c.self.invariant.3 in
    let room = ap (λ (q : Queued). q.room) c.leave_at.ensures in
    let len = length-set c.self.inside.slots.items c.args.number c.no_slot.result in (
      rw (c.leave_at.ensures, c.no_slot.ensures) (sound_left _ c.self.invariant.0 c.args.number c.args.slot (ap (λ (w : Lists). slot_at w.slots c.args.number) c.self.view_is ∙ c.requires)),
      starts,
      omega (arith, slots, room),
      omega (arith, few, room, len),
    )
