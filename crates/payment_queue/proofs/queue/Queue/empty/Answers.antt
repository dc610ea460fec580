use Rattle.std.proofs.Common.{◌∙◌, List, Option, ap, arith, length, map, subst, sym}
use Rattle.std.specs.Option.{is_none}
use Rattle.growing_set.specs.Growing.{Growing}
use Rattle.payment_queue.specs.declared.row.Row.{Row}
use Rattle.payment_queue.specs.Kept.{IsKept}
use Rattle.payment_queue.proofs.KeptLemmas.{is_kept_none}
use Rattle.payment_queue.proofs.queue.Queue.empty.Goals as goal

pub invariant_of-result : goal.invariant_of-result
invariant_of-result c =
    let e = c.in_ok-index.ensures in
    let none = c.in_ok-rows.ensures.items in
    record {
      is_kept = subst (λ (rows : List (Option Row)). IsKept rows c.in_ok-index.index) (sym none) (is_kept_none 0 c.in_ok-index.index e.empty e.sized (omega arith));
      bands = e.bands;
      free = ap (λ (s : Growing). s.set) c.in_ok-free.ensures ∙ sym (ap (λ (rows : List (Option Row)). map is_none rows) none);
      rest = ap (λ (s : Growing). s.room) c.in_ok-free.ensures;
      rows = (let len = c.in_ok-rows.ensures.len in let cap = c.in_ok-rows.ensures.capacity in omega (arith, len, cap));
      spare = e.room;
      few = (let len = ap (λ (rows : List (Option Row)). length rows) none in let fits = c.ranges.most.fits in omega (arith, len, fits));
    }
