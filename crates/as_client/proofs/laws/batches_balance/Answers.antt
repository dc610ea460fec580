use Rattle.as_client.proofs.PassFacts.{batches_balance}
use Rattle.as_client.proofs.laws.batches_balance.Goals as goal

pub returns : goal.returns
returns c = batches_balance
