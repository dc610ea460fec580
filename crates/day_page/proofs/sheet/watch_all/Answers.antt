use Rattle.std.proofs.Common.{length}
use Rattle.commit_journal.specs.Histories.{oldest}
use Rattle.day_page.proofs.SheetFacts.{watched_whole}
use Rattle.day_page.proofs.TextFacts.{whole}
use Rattle.day_page.proofs.sheet.watch_all.Goals as goal

pub returns-in-Ok : goal.returns-in-Ok
returns-in-Ok c =
    let H = c.args.journal.now.history in
    watched_whole c.args.setting.now.day c.args.request.now (oldest H (length H)) H _ (whole H) c.watched_with.ensures
