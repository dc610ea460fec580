use Rattle.settlement_laws.proofs.EachLaw.FundPaysOnYes.{fund_pays_on_yes}
use Rattle.settlement_laws.proofs.laws.fund_pays_on_yes.Goals as goal

pub returns : goal.returns
returns c = fund_pays_on_yes
