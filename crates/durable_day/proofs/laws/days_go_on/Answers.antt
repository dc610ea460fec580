use Rattle.durable_day.proofs.SurvivalLaws as laws
use Rattle.durable_day.proofs.laws.days_go_on.Goals as goal

pub returns-clause-complete : goal.returns-clause-complete
returns-clause-complete c = laws.days_go_on

pub returns-clause-once : goal.returns-clause-once
returns-clause-once c = laws.none_is_taken_again
