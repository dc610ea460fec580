use Rattle.outside_io.proofs.PutLemmas.{has_put_is, has_put_more, has_put_none, puts_front}
use Rattle.day_page.specs.WaitTexts.{queue_text}
use Rattle.day_page.proofs.TextFacts.{next_at, parts_at}
use Rattle.day_page.proofs.waiting.put_queues_of.Goals as goal

pub loop-p-init : goal.loop-p-init
loop-p-init g c = has_put_none _

pub returns-in_err-put_queue : goal.returns-in_err-put_queue
returns-in_err-put_queue g c =
    puts_front _ _ _ _ _ _ _ _ _ c.from_residual.ensures.0 (parts_at (queue_text c.args.waiting.now c.args.peaks.now) c.args.priorities.now c.loop-p.p-index _ c.loop-p-test.true) c.loop-p.invariant c.in_err-put_queue.ensures

pub loop-p-preserved : goal.loop-p-preserved
loop-p-preserved g c = has_put_is _ _ _ _ (next_at (queue_text c.args.waiting.now c.args.peaks.now) c.args.priorities.now c.loop-p.p-index _ c.loop-p-test.true) (has_put_more _ _ _ _ _ _ c.loop-p.invariant c.in_ok-put_queue.ensures)
