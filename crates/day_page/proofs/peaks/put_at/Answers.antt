use Rattle.std.proofs.Common.{◌-◌}
use Rattle.commit_journal.specs.Line.{Line}
use Rattle.commit_journal.specs.Histories.{oldest}
use Rattle.day_page.specs.Waits.{waiting}
use Rattle.day_page.proofs.SheetFacts.{then_ok}
use Rattle.day_page.proofs.StopFacts.{map_at}
use Rattle.day_page.proofs.peaks.put_at.Goals as goal

pub returns : goal.returns
returns c =
    let H = c.args.journal.now.history in
    let l : Line = record { head = c.line.result.0; moves = c.line.result.1.now } in
    then_ok _ (map_at (waiting c.args.setting.now.day c.args.request.now) (oldest H c.args.place) l (oldest H (c.args.place - 1)) _ _ c.line.ensures c.requires.waits) c.put_before.ensures
