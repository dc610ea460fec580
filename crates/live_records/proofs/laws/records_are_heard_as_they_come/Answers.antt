use Rattle.live_records.proofs.Continuing.{heard_next}
use Rattle.live_records.proofs.CutFacts.{ended_as_seen, read_as_seen}
use Rattle.live_records.proofs.laws.records_are_heard_as_they_come.Goals as goal

pub returns-clause-one : goal.returns-clause-one
returns-clause-one c = heard_next

pub returns-clause-read : goal.returns-clause-read
returns-clause-read c = read_as_seen

pub returns-clause-last : goal.returns-clause-last
returns-clause-last c = ended_as_seen
