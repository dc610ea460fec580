use Rattle.journal_replay.proofs.VerdictLaws as laws
use Rattle.journal_replay.proofs.judging.whole_journals_are_legal.Goals as goal

pub returns-clause-any_order : goal.returns-clause-any_order
returns-clause-any_order c = laws.whole_journals_are_legal

pub returns-clause-written_order : goal.returns-clause-written_order
returns-clause-written_order c = laws.settled_days_are_legal
