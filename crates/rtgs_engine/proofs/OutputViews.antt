-- What each party learns from an output.
use Rattle.as_client.proofs.TextFacts.{outputs_agree}
use Rattle.rtgs_engine.specs.Outputs.{output}
use Rattle.rtgs_engine.specs.OutputLaws.{ViewsOfOutputs}

pub views_of_outputs : ViewsOfOutputs
unfolding output
views_of_outputs = λ day J name sound legal. outputs_agree day J name sound legal
