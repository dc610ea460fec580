use Rattle.day_page.proofs.RunningFacts.{run_first}
use Rattle.day_page.proofs.courses.start.Goals as goal

pub returns : goal.returns
returns c = run_first c.args.setting.now.day c.args.members.now _ c.total_opening-held.ensures
