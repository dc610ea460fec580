use Rattle.std.proofs.Common.{inr}
use Rattle.rtgs_engine.proofs.trials.try_by_workers.Goals as goal

pub returns-in-Ok : goal.returns-in-Ok
returns-in-Ok g c = inr c.try_opened.ensures
