use Rattle.std.proofs.Common.{arith}
use Rattle.day_page.specs.Extents.{held_in}
use Rattle.day_page.proofs.PointFacts.{row_done, row_pushed, some_rows}
use Rattle.day_page.proofs.courses.put_helds.Goals as goal

pub push-requires-clause-begun : goal.push-requires-clause-begun
push-requires-clause-begun c = some_rows c.args.helds.now.rows c.loop-a.helds.rows _ c.loop-a.invariant

pub loop-a-preserved : goal.loop-a-preserved
loop-a-preserved c = row_pushed (held_in c.args.extents.now) c.args.helds.now.rows c.loop-a.helds.rows _ c.args.shown.now c.loop-a.a-index 0 _ c.loop-a-test.true c.loop-a.invariant c.held_at.ensures c.in_ok-push.ensures.ok

pub returns : goal.returns
returns c = row_done (held_in c.args.extents.now) c.args.helds.now.rows c.loop-a.helds.rows c.args.shown.now c.loop-a.a-index (omega (arith, c.loop-a-test.false)) c.loop-a.invariant
