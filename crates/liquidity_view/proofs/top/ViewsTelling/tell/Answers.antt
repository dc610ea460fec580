use Rattle.std.proofs.Common.{inr}
use Rattle.liquidity_view.proofs.top.ViewsTelling.tell.Goals as goal

pub returns-in-Ok : goal.returns-in-Ok
returns-in-Ok g c = inr c.view_with.ensures
