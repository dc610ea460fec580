use Rattle.as_client.proofs.PassFacts.{batches_state_their_own}
use Rattle.as_client.proofs.laws.batches_state_their_own.Goals as goal

pub returns : goal.returns
returns c = batches_state_their_own
