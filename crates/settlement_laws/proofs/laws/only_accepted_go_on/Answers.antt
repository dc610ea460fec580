use Rattle.settlement_laws.proofs.EachLaw.OnlyAcceptedGoOn.{only_accepted_go_on}
use Rattle.settlement_laws.proofs.laws.only_accepted_go_on.Goals as goal

pub returns : goal.returns
returns c = only_accepted_go_on
