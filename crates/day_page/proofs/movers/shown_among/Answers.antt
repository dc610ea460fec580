use Rattle.std.proofs.Common.{refl}
use Rattle.day_page.specs.Courses.{shown_part}
use Rattle.day_page.proofs.Ranges.{first_at}
use Rattle.day_page.proofs.movers.shown_among.Goals as goal

pub loop-one-preserved : goal.loop-one-preserved
loop-one-preserved c = first_at (shown_part c.args.most c.args.movers.now) _ _ _ c.args.movers.now c.loop-one.one-index _ c.loop-one-test.true c.loop-one.invariant refl c.in_ok-put_shown.ensures
