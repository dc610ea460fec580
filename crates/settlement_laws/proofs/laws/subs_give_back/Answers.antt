use Rattle.settlement_laws.proofs.DayEnd.SubsGiveBack.{subs_give_back}
use Rattle.settlement_laws.proofs.laws.subs_give_back.Goals as goal

pub returns : goal.returns
returns c = subs_give_back
