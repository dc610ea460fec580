use Rattle.settlement_laws.proofs.EachLaw.SameOrder.{plain_in_any, plain_migrated}
use Rattle.settlement_laws.proofs.laws.version_changes_no_order.Goals as goal

pub returns-clause-any : goal.returns-clause-any
returns-clause-any c = plain_in_any

pub returns-clause-migrated : goal.returns-clause-migrated
returns-clause-migrated c = plain_migrated
