use Rattle.durable_day.proofs.SurvivalLaws as laws
use Rattle.durable_day.proofs.laws.crashes_are_survived.Goals as goal

pub returns-clause-steps : goal.returns-clause-steps
returns-clause-steps c = laws.steps_survive

pub returns-clause-runs : goal.returns-clause-runs
returns-clause-runs c = laws.runs_survive
