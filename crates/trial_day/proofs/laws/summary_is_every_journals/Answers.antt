use Rattle.trial_day.proofs.SummaryLaw.{summary_is_every_journals, written_comes_to_summary}
use Rattle.trial_day.proofs.laws.summary_is_every_journals.Goals as goal

pub returns-clause-every : goal.returns-clause-every
returns-clause-every c = summary_is_every_journals

pub returns-clause-written : goal.returns-clause-written
returns-clause-written c = written_comes_to_summary
