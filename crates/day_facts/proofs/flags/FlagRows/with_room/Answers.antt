use Rattle.std.proofs.Common.{◌≡◌, ◌∙◌, ◌-◌, ◌≤◌, ap, arith, false, length}
use Rattle.std.specs.Prelude.{vec_capacity, vec_len}
use Rattle.std.proofs.lemmas.List.{length-replicate}
use Rattle.day_facts.proofs.RowLemmas.{none_held}
use Rattle.day_facts.proofs.flags.FlagRows.with_room.Goals as goal

pub invariant_of-result : goal.invariant_of-result
invariant_of-result c =
    (none_held c.in_ok-ends.ends.items c.in_ok-items.items c.in_ok-standing.standing.items c.args.items _ _ c.in_ok-ends.ensures.items c.in_ok-standing.ensures.items
    (ap length c.in_ok-items.ensures ∙ length-replicate c.args.items false) (let e : vec_capacity c.in_ok-ends.ends ≤ vec_capacity c.in_ok-standing.standing = omega (arith, c.in_ok-ends.ensures.exact, c.in_ok-standing.ensures.exact) in e)).0

pub returns : goal.returns
returns c =
    let rows : vec_capacity c.in_ok-ends.ends - vec_len c.in_ok-ends.ends ≡ c.args.rows = omega (arith, c.in_ok-ends.ensures.exact, c.in_ok-ends.ensures.len) in
    λ i. record {
      rows = (none_held c.in_ok-ends.ends.items c.in_ok-items.items c.in_ok-standing.standing.items c.args.items (vec_capacity c.in_ok-ends.ends) (vec_capacity c.in_ok-standing.standing) c.in_ok-ends.ensures.items c.in_ok-standing.ensures.items
          (ap length c.in_ok-items.ensures ∙ length-replicate c.args.items false) (omega (arith, c.in_ok-ends.ensures.exact, c.in_ok-standing.ensures.exact))).1 i;
      room_for_rows = rows i;
      room_for_items = c.args.items;
    }
