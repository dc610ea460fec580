use Rattle.durable_day.proofs.StoreFacts as facts
use Rattle.durable_day.proofs.laws.one_journal_each.Goals as goal

pub returns-clause-found : goal.returns-clause-found
returns-clause-found c = facts.fronts_are_found

pub returns-clause-stands : goal.returns-clause-stands
returns-clause-stands c = facts.closed_fronts_stand

pub returns-clause-no_other : goal.returns-clause-no_other
returns-clause-no_other c = facts.one_journal_each
