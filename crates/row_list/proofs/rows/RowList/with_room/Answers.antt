use Rattle.std.proofs.Common.{arith}
use Rattle.row_list.proofs.CutLemmas.{none_cut, none_rise, same_shown}
use Rattle.row_list.proofs.rows.RowList.with_room.Goals as goal

pub invariant_of-result : goal.invariant_of-result
invariant_of-result g c = none_rise _ _ c.in_ok-ends.ensures.items c.in_ok-items.ensures.items

pub returns : goal.returns
returns g c = same_shown _ _ _ _ _ _ (none_cut c.in_ok-ends.ends.items c.in_ok-items.items.items c.in_ok-ends.ensures.items) (omega (arith, c.in_ok-ends.ensures.len, c.in_ok-ends.ensures.exact)) (omega (arith, c.in_ok-items.ensures.len, c.in_ok-items.ensures.exact))
