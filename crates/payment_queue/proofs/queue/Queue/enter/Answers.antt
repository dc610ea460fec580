use Rattle.std.proofs.Common.{◌≡◌, ◌+◌, ◌*◌, ◌<◌, ◌≤◌, List, Bool, Some, false, length, set, sym, ap, ◌∙◌, arith}
use Rattle.std.specs.Option.{is_none}
use Rattle.std.proofs.lemmas.List.{length-set, map-set}
use Rattle.payment_queue.specs.Standing.{rank}
use Rattle.payment_queue.specs.Queued.{Queued, first_free, has_place, row, rows, stands_on}
use Rattle.payment_queue.proofs.KeptLemmas.{room_kept, free_place, is_kept_placed}
use Rattle.payment_queue.proofs.OrderLemmas.{rank_le}
use Rattle.payment_queue.proofs.queue.Queue.enter.Goals as goal

pub link-requires-clause-free : goal.link-requires-clause-free
link-requires-clause-free c = rw c.deref-2.ensures.value (free_place c.self.inside.rows.items (row c.args.a c.args.item c.args.priority c.args.place) c.self.invariant.is_kept.sound
    (record { active = omega arith; intake = omega arith; entry = omega arith })
    (ap (λ (v : Queued). has_place (rows v) c.args.a c.args.place) c.self.view_is ∙ c.requires.place_free))

pub invariant_of-self : goal.invariant_of-self
invariant_of-self c =
    let i = c.self.invariant in
    let r = row c.args.a c.args.item c.args.priority c.args.place in
    let slots = c.self.inside.rows.items in
    let accounts : c.self.inside.accounts ≡ c.args.self.now.accounts = ap (λ (v : Queued). v.accounts) c.self.view_is in
    let le : rank c.args.priority ≤ 2 = rank_le c.args.priority in
    let bands : length c.self.inside.index.forward.ends.items ≡ 3 * c.self.inside.accounts + 3 = i.bands in
    let in_band : 3 * c.args.a + rank c.args.priority < length c.self.inside.index.forward.ends.items = omega (arith, c.requires.to) in
    record {
      is_kept = is_kept_placed slots c.self.inside.index c.link.new.index c.first_free-slot.result r i.is_kept (rw c.deref.ensures.value at c.first_free-slot.ensures.within)
          (record { active = omega arith; intake = omega arith; entry = omega arith }) in_band
          (ap (λ (v : Queued). stands_on (rows v) c.args.a c.args.item) c.self.view_is ∙ c.requires.absent)
          (free_place slots r i.is_kept.sound (record { active = omega arith; intake = omega arith; entry = omega arith })
          (ap (λ (v : Queued). has_place (rows v) c.args.a c.args.place) c.self.view_is ∙ c.requires.place_free))
          c.link.ensures.size (rw c.deref-2.ensures.value at c.link.ensures.index);
      bands = c.link.ensures.size.bands ∙ i.bands;
      free = c.remove.ensures.set ∙ ap (λ (f : List Bool). set f c.first_free-slot.result false) i.free ∙ sym (map-set is_none slots c.first_free-slot.result (Some r));
      rest = c.remove.ensures.room ∙ i.rest;
      rows = (let rows = i.rows in omega (arith, rows));
      spare = room_kept c.self.inside.room c.self.inside.index c.link.new.index i.spare c.link.ensures.size;
      few = (let len = length-set slots c.first_free-slot.result (Some r) in let few = i.few in omega (arith, len, few));
    }

pub returns-clause-first : goal.returns-clause-first
returns-clause-first c = rw c.deref.ensures.value at c.first_free-slot.ensures.first ∙ ap (λ (v : Queued). first_free v.slots) c.self.view_is
