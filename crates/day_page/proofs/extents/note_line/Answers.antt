use Rattle.std.proofs.Common.{◌∙◌, ◌-◌}
use Rattle.commit_journal.specs.Line.{Line}
use Rattle.commit_journal.specs.Histories.{oldest}
use Rattle.day_page.proofs.Beginnings.{legal_oldest}
use Rattle.day_page.proofs.ExtentFacts.{extents_after}
use Rattle.day_page.proofs.extents.note_line.Goals as goal

pub returns : goal.returns
returns c =
    let day = c.args.setting.now.day in
    let H = c.args.journal.now.history in
    let l : Line = record { head = c.line.result.0; moves = c.line.result.1.now } in
    c.move_all.ensures.value
    ∙ extents_after day l (oldest H c.args.place) (oldest H (c.args.place - 1)) c.args.extents.now c.args.setting.now.sound (legal_oldest day c.args.place H c.requires.legal) c.line.ensures c.move_all.ensures.small c.requires.before
