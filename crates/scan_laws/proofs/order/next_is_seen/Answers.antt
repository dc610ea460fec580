use Rattle.scan_laws.proofs.NextFacts.{next-same, next_of-is, next-seen, none-seen, represents-by, represents-moved, represents-turned}
use Rattle.scan_laws.proofs.order.next_is_seen.Goals as goal

pub returns-clause-next : goal.returns-clause-next
returns-clause-next c = next-seen

pub returns-clause-empty : goal.returns-clause-empty
returns-clause-empty c = none-seen

pub returns-clause-from_ones : goal.returns-clause-from_ones
returns-clause-from_ones c = represents-by

pub returns-clause-moved : goal.returns-clause-moved
returns-clause-moved c = represents-moved

pub returns-clause-turned : goal.returns-clause-turned
returns-clause-turned c = represents-turned

pub returns-clause-one : goal.returns-clause-one
returns-clause-one c = next-same

pub returns-clause-computed : goal.returns-clause-computed
returns-clause-computed c = next_of-is
