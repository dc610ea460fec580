use Rattle.settlement_laws.proofs.EachLaw.EndsInItsTime.{ends_in_its_time}
use Rattle.settlement_laws.proofs.laws.ends_in_its_time.Goals as goal

pub returns : goal.returns
returns c = ends_in_its_time
