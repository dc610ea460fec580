use Rattle.live_records.proofs.FateFacts.{count_all, count_few, told_beyond, told_none, told_once}
use Rattle.live_records.proofs.OwnFacts.{records_owned}
use Rattle.live_records.proofs.laws.each_record_is_told_once.Goals as goal

pub returns-clause-once : goal.returns-clause-once
returns-clause-once c = told_once

pub returns-clause-none : goal.returns-clause-none
returns-clause-none c = told_none

pub returns-clause-beyond : goal.returns-clause-beyond
returns-clause-beyond c = told_beyond

pub returns-clause-all : goal.returns-clause-all
returns-clause-all c = count_all

pub returns-clause-few : goal.returns-clause-few
returns-clause-few c = count_few

pub returns-clause-own : goal.returns-clause-own
returns-clause-own c = records_owned
