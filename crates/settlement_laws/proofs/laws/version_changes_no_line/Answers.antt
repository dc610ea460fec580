use Rattle.settlement_laws.proofs.EachLaw.SameVersion.{legal_in_any, same_legal}
use Rattle.settlement_laws.proofs.laws.version_changes_no_line.Goals as goal

pub returns-clause-any : goal.returns-clause-any
returns-clause-any c = legal_in_any

pub returns-clause-migrated : goal.returns-clause-migrated
returns-clause-migrated c = same_legal
