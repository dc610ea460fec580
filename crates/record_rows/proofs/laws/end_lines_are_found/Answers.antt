use Rattle.record_rows.proofs.LineFacts.{end_found, end_open, open_means, over_means}
use Rattle.record_rows.proofs.laws.end_lines_are_found.Goals as goal

pub returns-clause-over : goal.returns-clause-over
returns-clause-over c = over_means

pub returns-clause-found : goal.returns-clause-found
returns-clause-found c = end_found

pub returns-clause-open : goal.returns-clause-open
returns-clause-open c = open_means

pub returns-clause-last : goal.returns-clause-last
returns-clause-last c = end_open
