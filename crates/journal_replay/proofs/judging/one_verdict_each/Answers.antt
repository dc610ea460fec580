use Rattle.journal_replay.proofs.VerdictLaws.{verdicts_hold, no_other_holds}
use Rattle.journal_replay.proofs.judging.one_verdict_each.Goals as goal

pub returns-clause-holds : goal.returns-clause-holds
returns-clause-holds c = verdicts_hold

pub returns-clause-no_other : goal.returns-clause-no_other
returns-clause-no_other c = no_other_holds
