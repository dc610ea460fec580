use Rattle.day_page.proofs.RowFacts.{same_course}
use Rattle.day_page.proofs.TextFacts.{same_put}
use Rattle.day_page.proofs.balances.put_own_course.Goals as goal

pub returns : goal.returns
returns g c = same_put _ _ _ _ _ (same_course c.args.setting.now.day c.args.points.now c.points_of.result.now c.args.course.now c.points_of.ensures) c.put_course.ensures
