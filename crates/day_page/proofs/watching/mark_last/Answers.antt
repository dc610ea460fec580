use Rattle.std.proofs.Common.{length}
use Rattle.commit_journal.specs.Histories.{oldest}
use Rattle.day_page.specs.Bars.{marks_at}
use Rattle.day_page.proofs.SheetFacts.{then_ok}
use Rattle.day_page.proofs.StopFacts.{flat_last}
use Rattle.day_page.proofs.watching.mark_last.Goals as goal

pub returns : goal.returns
returns c =
    let H = c.args.journal.now.history in
    then_ok _ (flat_last (marks_at c.args.setting.now.day c.args.bars.now) (oldest H (length H)) _ _ c.requires.marks) (rw c.len.ensures at c.put_marks.ensures)
