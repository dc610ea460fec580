use Rattle.std.proofs.Common.{inr}
use Rattle.program_answers.proofs.Saying.{says}
use Rattle.rtgs_engine.proofs.working.put_settled.Goals as goal

pub returns-in-Ok : goal.returns-in-Ok
returns-in-Ok g c = inr (says _ _ _ 0 _ _ c.put_output-written.ensures c.status_after.ensures)
