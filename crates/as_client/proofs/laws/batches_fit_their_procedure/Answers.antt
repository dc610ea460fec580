use Rattle.as_client.proofs.PassFacts.{batches_fit_their_procedure}
use Rattle.as_client.proofs.laws.batches_fit_their_procedure.Goals as goal

pub returns : goal.returns
returns c = batches_fit_their_procedure
