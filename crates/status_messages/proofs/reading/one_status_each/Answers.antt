use Rattle.status_messages.proofs.StatusLemmas.{statuses_are_read, only_statuses_are_read}
use Rattle.status_messages.proofs.reading.one_status_each.Goals as goal

pub returns-clause-read : goal.returns-clause-read
returns-clause-read c = statuses_are_read

pub returns-clause-nothing_else : goal.returns-clause-nothing_else
returns-clause-nothing_else c = only_statuses_are_read
