use Rattle.std.proofs.Common.{length}
use Rattle.commit_journal.specs.Histories.{oldest}
use Rattle.day_page.proofs.SheetFacts.{are_watched}
use Rattle.day_page.proofs.sheet.watched_with.Goals as goal

pub returns-in-Ok-changes : goal.returns-in-Ok-changes
returns-in-Ok-changes c =
    let H = c.args.journal.now.history in
    are_watched c.args.setting.now.day c.args.request.now (oldest H (length H)) _ _ _ _ _ _ _ _ _ c.in-Ok.ensures.stands c.requires.waits c.requires.peaks c.requires.bars c.as_slice.ensures.value c.in-Ok.ensures.marks c.as_slice-2.ensures.value c.as_slice-3.ensures.value c.in-Ok-changes.ensures
