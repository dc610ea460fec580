use Rattle.commit_journal.specs.Histories.{oldest}
use Rattle.day_page.specs.Bars.{mark}
use Rattle.day_page.proofs.Ranges.{put_at}
use Rattle.day_page.proofs.bars.put_marks.Goals as goal

pub loop-n-preserved : goal.loop-n-preserved
loop-n-preserved c =
    put_at (mark c.args.past.now.setting.now.day (oldest c.args.past.now.journal.now.history c.args.past.now.place)) c.args.marks.now.items _ _ c.args.bars.now c.loop-n.n-index _ _ c.loop-n-test.true c.loop-n.invariant c.mark_at.ensures c.in_ok-push.ensures.items
