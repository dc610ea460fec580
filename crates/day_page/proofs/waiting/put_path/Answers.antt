use Rattle.outside_io.proofs.PutLemmas.{has_put_is, has_put_more, has_put_none, puts_front}
use Rattle.day_page.specs.WaitTexts.{queue_step}
use Rattle.day_page.proofs.TextFacts.{next_at, parts_at}
use Rattle.day_page.proofs.waiting.put_path.Goals as goal

pub loop-one-init : goal.loop-one-init
loop-one-init g c = has_put_none _

pub returns-in_err-put_step : goal.returns-in_err-put_step
returns-in_err-put_step g c =
    puts_front _ _ _ _ _ _ _ _ _ c.from_residual.ensures.0 (parts_at (queue_step c.args.p c.args.top) c.args.waiting.now c.loop-one.one-index _ c.loop-one-test.true) c.loop-one.invariant c.in_err-put_step.ensures

pub loop-one-preserved : goal.loop-one-preserved
loop-one-preserved g c = has_put_is _ _ _ _ (next_at (queue_step c.args.p c.args.top) c.args.waiting.now c.loop-one.one-index _ c.loop-one-test.true) (has_put_more _ _ _ _ _ _ c.loop-one.invariant c.in_ok-put_step.ensures)
