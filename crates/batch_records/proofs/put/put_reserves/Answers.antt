use Rattle.outside_io.proofs.PutLemmas.{has_put_is, has_put_more, has_put_none, puts_front, texts_next, texts_parts}
use Rattle.batch_records.specs.DayTexts.{reserve_text}
use Rattle.batch_records.proofs.put.put_reserves.Goals as goal

pub loop-reserve-init : goal.loop-reserve-init
loop-reserve-init g c = has_put_none _

pub returns-in_err-put_reserve : goal.returns-in_err-put_reserve
returns-in_err-put_reserve g c =
    puts_front _ _ _ _ _ _ _ _ _ c.from_residual.ensures.0 (texts_parts (reserve_text _) _ _ _ c.loop-reserve-test.true c.reserve-item.is) c.loop-reserve.invariant c.in_err-put_reserve.ensures

pub loop-reserve-preserved : goal.loop-reserve-preserved
loop-reserve-preserved g c = has_put_is _ _ _ _ (texts_next (reserve_text _) _ _ _ c.loop-reserve-test.true c.reserve-item.is) (has_put_more _ _ _ _ _ _ c.loop-reserve.invariant c.in_ok-put_reserve.ensures)
