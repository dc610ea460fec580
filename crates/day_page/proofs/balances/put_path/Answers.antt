use Rattle.outside_io.proofs.PutLemmas.{has_put_is, has_put_more, has_put_none, puts_front}
use Rattle.day_page.specs.BalanceTexts.{point_step}
use Rattle.day_page.proofs.TextFacts.{next_at, parts_at}
use Rattle.day_page.proofs.balances.put_path.Goals as goal

pub loop-point-init : goal.loop-point-init
loop-point-init g c = has_put_none _

pub returns-in_err-put_step : goal.returns-in_err-put_step
returns-in_err-put_step g c =
    puts_front _ _ _ _ _ _ _ _ _ c.from_residual.ensures.0 (parts_at (point_step c.args.course.now) c.args.points.now c.loop-point.point-index _ c.loop-point-test.true) c.loop-point.invariant c.in_err-put_step.ensures

pub loop-point-preserved : goal.loop-point-preserved
loop-point-preserved g c = has_put_is _ _ _ _ (next_at (point_step c.args.course.now) c.args.points.now c.loop-point.point-index _ c.loop-point-test.true) (has_put_more _ _ _ _ _ _ c.loop-point.invariant c.in_ok-put_step.ensures)
