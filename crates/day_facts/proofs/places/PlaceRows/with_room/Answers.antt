use Rattle.std.proofs.Common.{◌≡◌, ◌-◌, arith}
use Rattle.std.specs.Prelude.{vec_capacity, vec_len}
use Rattle.rule_book.proofs.RowLemmas.{made_first}
use Rattle.day_facts.proofs.places.PlaceRows.with_room.Goals as goal

pub invariant_of-result : goal.invariant_of-result
invariant_of-result c = (made_first c.in_ok-ends.ends.items c.in_ok-items.items.items c.in_ok-ends.ensures.items c.in_ok-items.ensures.items).ends_there

pub returns : goal.returns
returns c =
    let rows : vec_capacity c.in_ok-ends.ends - vec_len c.in_ok-ends.ends ≡ c.args.rows = omega (arith, c.in_ok-ends.ensures.exact, c.in_ok-ends.ensures.len) in
    let items : vec_capacity c.in_ok-items.items - vec_len c.in_ok-items.items ≡ c.args.items = omega (arith, c.in_ok-items.ensures.exact, c.in_ok-items.ensures.len) in
    λ i. record {
      rows = (made_first c.in_ok-ends.ends.items c.in_ok-items.items.items c.in_ok-ends.ensures.items c.in_ok-items.ensures.items).rows_are i;
      room_for_rows = rows i;
      room_for_items = items i;
    }
