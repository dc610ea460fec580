use Rattle.day_reasons.proofs.work.facts_and_pending.Goals as goal

pub returns-in-Ok-clause-facts : goal.returns-in-Ok-clause-facts
returns-in-Ok-clause-facts c = c.in_ok-facts.ensures

pub returns-in-Ok-clause-pending : goal.returns-in-Ok-clause-pending
returns-in-Ok-clause-pending c = c.in-Ok.ensures
