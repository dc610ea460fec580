use Rattle.outside_io.proofs.PutLemmas.{has_put_is, has_put_more, has_put_none, puts_front, texts_next, texts_parts}
use Rattle.batch_records.specs.DayTexts.{system_text}
use Rattle.batch_records.proofs.put.put_systems.Goals as goal

pub loop-system-init : goal.loop-system-init
loop-system-init g c = has_put_none _

pub returns-in_err-put_system : goal.returns-in_err-put_system
returns-in_err-put_system g c =
    puts_front _ _ _ _ _ _ _ _ _ c.from_residual.ensures.0 (texts_parts system_text _ _ _ c.loop-system-test.true c.system-item.is) c.loop-system.invariant c.in_err-put_system.ensures

pub loop-system-preserved : goal.loop-system-preserved
loop-system-preserved g c = has_put_is _ _ _ _ (texts_next system_text _ _ _ c.loop-system-test.true c.system-item.is) (has_put_more _ _ _ _ _ _ c.loop-system.invariant c.in_ok-put_system.ensures)
