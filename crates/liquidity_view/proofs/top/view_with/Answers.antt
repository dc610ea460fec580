use Rattle.program_answers.proofs.Saying.{says}
use Rattle.liquidity_view.specs.Viewed.{view_text}
use Rattle.liquidity_view.proofs.top.view_with.Goals as goal

pub returns : goal.returns
returns g c = says _ _ (view_text c.args.setting.now.day c.args.request.now c.args.journal.now.history) 0 _ _ c.put_view.ensures c.status_after.ensures
