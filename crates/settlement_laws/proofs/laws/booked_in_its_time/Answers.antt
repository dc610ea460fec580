use Rattle.settlement_laws.proofs.EachLaw.WithinLimits.{after_its_start, before_its_end}
use Rattle.settlement_laws.proofs.laws.booked_in_its_time.Goals as goal

pub returns-clause-after_start : goal.returns-clause-after_start
returns-clause-after_start c = after_its_start

pub returns-clause-before_end : goal.returns-clause-before_end
returns-clause-before_end c = before_its_end
