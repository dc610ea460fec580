use Rattle.std.proofs.Common.{◌∙◌, ◌≤◌, ◌-◌, None, List, Option, ap, arith, length, map, replicate, subst, sym}
use Rattle.std.specs.Option.{is_none}
use Rattle.std.proofs.lemmas.List.{length-append, length-replicate}
use Rattle.payment_queue.specs.declared.row.Row.{Row}
use Rattle.payment_queue.specs.Queued.{Queued, grown}
use Rattle.payment_queue.specs.Kept.{IsKept}
use Rattle.payment_queue.proofs.KeptLemmas.{free_grown, is_kept_grown, room_grown}
use Rattle.payment_queue.proofs.queue.Queue.grow.Goals as goal

pub push_rows-requires : goal.push_rows-requires
push_rows-requires c =
    let h : c.args.by ≤ c.self.inside.room = subst (λ (q : Queued). c.args.by ≤ q.room) (sym c.self.view_is) c.requires in
    let rows = c.self.invariant.rows in
    omega (arith, h, rows)

pub free_more-requires : goal.free_more-requires
free_more-requires c =
    let h : c.args.by ≤ c.self.inside.room = subst (λ (q : Queued). c.args.by ≤ q.room) (sym c.self.view_is) c.requires in
    let rest = c.self.invariant.rest in
    omega (arith, h, rest)

pub grow_index-requires : goal.grow_index-requires
grow_index-requires c =
    let h : c.args.by ≤ c.self.inside.room = subst (λ (q : Queued). c.args.by ≤ q.room) (sym c.self.view_is) c.requires in
    let spare = c.self.invariant.spare in
    let forward = spare.forward in
    let backward = spare.backward in
    record { forward = omega (arith, h, forward); backward = omega (arith, h, backward) }

pub invariant_of-self : goal.invariant_of-self
invariant_of-self c =
    let i = c.self.invariant in
    let slots = c.self.inside.rows.items in
    let by = c.args.by in
    let h : by ≤ c.self.inside.room = subst (λ (q : Queued). by ≤ q.room) (sym c.self.view_is) c.requires in
    let few = i.few in
    record {
      is_kept = subst (λ (rows : List (Option Row)). IsKept rows c.grow_index.new.index) (sym c.push_rows.ensures.rows) (is_kept_grown slots by c.self.inside.index c.grow_index.new.index i.is_kept (omega (arith, few, h)) c.grow_index.ensures);
      bands = ap length c.grow_index.ensures.bands ∙ i.bands;
      free = c.free_more.ensures.set ∙ (free_grown slots by c.self.inside.free.set i.free ∙ sym (ap (λ (rows : List (Option Row)). map is_none rows) c.push_rows.ensures.rows));
      rest = (let less = c.free_more.ensures.room in let rest = i.rest in omega (arith, less, rest, h));
      rows = (let len = c.push_rows.ensures.len in let cap = c.push_rows.ensures.capacity in let rows = i.rows in omega (arith, len, cap, rows, h));
      spare = room_grown c.self.inside.room by c.self.inside.index c.grow_index.new.index h i.spare c.grow_index.ensures;
      few = (let len = ap length c.push_rows.ensures.rows ∙ length-append slots (replicate by None) in let n = length-replicate {A = Option Row} by None in omega (arith, len, n, few, h));
    }

pub returns : goal.returns
returns c = (λ i. record { slots = c.push_rows.ensures.rows i; accounts = c.self.inside.accounts; room = c.self.inside.room - c.args.by }) ∙ ap (λ (q : Queued). grown q c.args.by) c.self.view_is
