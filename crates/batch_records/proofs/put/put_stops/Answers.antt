use Rattle.outside_io.proofs.PutLemmas.{has_put_is, has_put_more, has_put_none, puts_front}
use Rattle.batch_records.proofs.PutFacts.{stops_next, stops_parts}
use Rattle.batch_records.proofs.put.put_stops.Goals as goal

pub loop-stop-init : goal.loop-stop-init
loop-stop-init g c = has_put_none _

pub returns-in_err-put_stop : goal.returns-in_err-put_stop
returns-in_err-put_stop g c =
    puts_front _ _ _ _ _ _ _ _ _ c.from_residual.ensures.0 (stops_parts _ _ _ c.loop-stop-test.true) c.loop-stop.invariant c.in_err-put_stop.ensures

pub loop-stop-preserved : goal.loop-stop-preserved
loop-stop-preserved g c = has_put_is _ _ _ _ (stops_next _ _ _ c.loop-stop-test.true) (has_put_more _ _ _ _ _ _ c.loop-stop.invariant c.in_ok-put_stop.ensures)
