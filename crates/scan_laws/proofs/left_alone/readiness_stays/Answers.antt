use Rattle.scan_laws.proofs.Frame.{ready_stays, alone_stays, account_stays, still_on}
use Rattle.scan_laws.proofs.left_alone.readiness_stays.Goals as goal

pub returns-clause-item : goal.returns-clause-item
returns-clause-item c = ready_stays

pub returns-clause-alone : goal.returns-clause-alone
returns-clause-alone c = alone_stays

pub returns-clause-account : goal.returns-clause-account
returns-clause-account c = account_stays

pub returns-clause-on : goal.returns-clause-on
returns-clause-on c = still_on
