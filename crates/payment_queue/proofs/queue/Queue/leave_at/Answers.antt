use Rattle.std.proofs.Common.{List, Bool, None, true, set, sym, ap, ◌∙◌, arith}
use Rattle.std.specs.Option.{is_none}
use Rattle.std.proofs.lemmas.List.{length-set, map-set}
use Rattle.payment_queue.specs.Queued.{Queued}
use Rattle.payment_queue.specs.Indexed.{live}
use Rattle.payment_queue.proofs.KeptLemmas.{room_kept, is_kept_cleared}
use Rattle.payment_queue.proofs.queue.Queue.leave_at.Goals as goal

pub invariant_of-self : goal.invariant_of-self
invariant_of-self c =
    let i = c.self.invariant in
    let slots = c.self.inside.rows.items in
    record {
      is_kept = is_kept_cleared slots c.self.inside.index c.unlink.new.index c.args.slot i.is_kept (ap (λ (v : Queued). live v.slots c.args.slot) c.self.view_is ∙ c.requires)
          c.unlink.ensures.size (rw c.deref.ensures.value at c.unlink.ensures.index);
      bands = c.unlink.ensures.size.bands ∙ i.bands;
      free = c.insert.ensures.set ∙ ap (λ (f : List Bool). set f c.args.slot true) i.free ∙ sym (map-set is_none slots c.args.slot None);
      rest = c.insert.ensures.room ∙ i.rest;
      rows = (let rows = i.rows in omega (arith, rows));
      spare = room_kept c.self.inside.room c.self.inside.index c.unlink.new.index i.spare c.unlink.ensures.size;
      few = (let len = length-set slots c.args.slot None in let few = i.few in omega (arith, len, few));
    }
