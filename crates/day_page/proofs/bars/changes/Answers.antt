use Rattle.std.proofs.Common.{refl}
use Rattle.day_page.specs.Bars.{changes_of}
use Rattle.day_page.proofs.Ranges.{first_at}
use Rattle.day_page.proofs.bars.changes.Goals as goal

pub loop-n-preserved : goal.loop-n-preserved
loop-n-preserved c = first_at (changes_of c.args.marks.now) _ _ _ c.args.bars.now c.loop-n.n-index _ c.loop-n-test.true c.loop-n.invariant refl c.in_ok-put_changes.ensures
