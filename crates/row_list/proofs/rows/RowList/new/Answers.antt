use Rattle.std.proofs.Common.{arith}
use Rattle.row_list.proofs.CutLemmas.{none_cut, none_rise, same_shown}
use Rattle.row_list.proofs.rows.RowList.new.Goals as goal

pub invariant_of-result : goal.invariant_of-result
invariant_of-result g c = none_rise _ _ c.new.ensures.items c.new-2.ensures.items

pub returns : goal.returns
returns g c = same_shown _ _ _ _ _ _ (none_cut c.new.result.items c.new-2.result.items c.new.ensures.items) (omega (arith, c.new.ensures.len, c.new.ensures.capacity)) (omega (arith, c.new-2.ensures.len, c.new-2.ensures.capacity))
