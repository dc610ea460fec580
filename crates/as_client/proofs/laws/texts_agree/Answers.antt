use Rattle.as_client.proofs.LineFacts.{lines_agree}
use Rattle.as_client.proofs.TextFacts.{outputs_agree, texts_agree}
use Rattle.as_client.proofs.laws.texts_agree.Goals as goal

pub returns-clause-lines : goal.returns-clause-lines
returns-clause-lines c = lines_agree

pub returns-clause-texts : goal.returns-clause-texts
returns-clause-texts c = texts_agree

pub returns-clause-outputs : goal.returns-clause-outputs
returns-clause-outputs c = outputs_agree
