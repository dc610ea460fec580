use Rattle.as_client.proofs.ViewFacts.{views_agree}
use Rattle.as_client.proofs.laws.views_agree.Goals as goal

pub returns : goal.returns
returns c = views_agree
