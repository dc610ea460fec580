use Rattle.std.proofs.Common.{◌≡◌, ◌<◌, length, sym, ap, ◌∙◌, arith}
use Rattle.std.specs.Prelude.{nat_le}
use Rattle.std.proofs.lemmas.List.{length-set}
use Rattle.payment_queue.specs.Queued.{Queued, row}
use Rattle.pending_items.specs.Numbers.{number_in}
use Rattle.pending_items.specs.Items.{Lists, slot_at}
use Rattle.pending_items.proofs.SoundFacts.{absent, place_free, sound_entered, spare}
use Rattle.pending_items.proofs.rows.ItemRows.put.Goals as goal

pub enter-slot-requires-clause-spare : goal.enter-slot-requires-clause-spare
enter-slot-requires-clause-spare c =
    let size : length c.self.inside.slots.items ≡ length c.args.self.now.slots = ap (λ (w : Lists). length w.slots) c.self.view_is in
    spare _ c.self.invariant.0 c.args.number (omega (arith, size, c.requires.within)) (ap (λ (w : Lists). slot_at w.slots c.args.number) c.self.view_is ∙ c.requires.none)

pub enter-slot-requires-clause-absent : goal.enter-slot-requires-clause-absent
enter-slot-requires-clause-absent c =
    absent _ c.self.invariant.0 c.args.band c.args.number c.args.item (c.requires.own ∙ sym (ap (λ (w : Lists). number_in w.starts c.args.item) c.self.view_is))
    (ap (λ (w : Lists). slot_at w.slots c.args.number) c.self.view_is ∙ c.requires.none)

pub enter-slot-requires-clause-place_free : goal.enter-slot-requires-clause-place_free
enter-slot-requires-clause-place_free c =
    place_free _ c.self.invariant.0 c.args.band c.args.number c.args.place c.requires.entry (ap (λ (w : Lists). slot_at w.slots c.args.number) c.self.view_is ∙ c.requires.none)

pub slot_is-requires : goal.slot_is-requires
slot_is-requires c =
    let within : c.enter-slot.result < length c.self.inside.queue.slots = c.enter-slot.ensures.within in
    let room : length c.self.inside.queue.slots ≡ length c.self.inside.slots.items = c.self.invariant.0.room in
    let few = c.self.invariant.3 in
    omega (arith, within, room, few)

pub invariant_of-self : goal.invariant_of-self
invariant_of-self c =
    let size : length c.self.inside.slots.items ≡ length c.args.self.now.slots = ap (λ (w : Lists). length w.slots) c.self.view_is in
    let starts = c.self.invariant.1 in
    let slots = c.self.invariant.2 in
    let few = c.self.invariant.3 in
    let room = ap (λ (q : Queued). q.room) c.enter-slot.ensures.entered in
    let len = length-set c.self.inside.slots.items c.args.number c.slot_is.result in (
      rw (c.enter-slot.ensures.entered, c.slot_is.ensures) (sound_entered _ c.self.invariant.0 c.args.number c.enter-slot.result (row c.args.band c.args.item c.args.priority c.args.place)
          (omega (arith, size, c.requires.within)) (ap (λ (w : Lists). slot_at w.slots c.args.number) c.self.view_is ∙ c.requires.none)
          c.enter-slot.ensures.within c.enter-slot.ensures.free
          (sym (c.requires.own ∙ sym (ap (λ (w : Lists). number_in w.starts c.args.item) c.self.view_is))) c.requires.entry
          (ap (λ (w : Lists). nat_le c.args.item.msg (length w.starts)) c.self.view_is ∙ c.requires.there)),
      starts,
      omega (arith, slots, room),
      omega (arith, few, room, len),
    )
