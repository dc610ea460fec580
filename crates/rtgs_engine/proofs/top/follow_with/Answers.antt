use Rattle.as_client.specs.Views.{report_of, text_lines}
use Rattle.program_answers.specs.Answers.{illegal_text}
use Rattle.program_answers.proofs.Saying.{says}
use Rattle.rtgs_engine.proofs.FollowFacts.{view_done, view_wrong}
use Rattle.rtgs_engine.proofs.Texts.{says_same}
use Rattle.rtgs_engine.proofs.top.follow_with.Goals as goal

pub returns-in-Ok : goal.returns-in-Ok
returns-in-Ok g c =
    let day = c.args.day.now in
    let name = c.args.name.now in
    let took = c.in-Ok.ensures in
    says_same _ _ _ _ _ (view_done day name (text_lines c.args.rest.now) took.now took.taken)
    (says _ _ (report_of day name took.now) 0 _ _ (c.put_report.ensures.report name took.now took.knows took.count_is) c.status_after.ensures)

pub returns : goal.returns
returns g c =
    says_same _ _ _ _ _ (view_wrong c.args.day.now c.args.name.now (text_lines c.args.rest.now) c.in-Err.line c.in-Err.ensures)
    (says _ _ (illegal_text c.in-Err.line) 6 _ _ c.put_illegal.ensures c.status_after-in-Err.ensures)
