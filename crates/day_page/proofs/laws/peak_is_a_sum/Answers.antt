use Rattle.day_page.proofs.HighestFacts.{is_above_all, is_most}
use Rattle.day_page.proofs.laws.peak_is_a_sum.Goals as goal

pub returns-clause-one : goal.returns-clause-one
returns-clause-one c = is_most

pub returns-clause-most : goal.returns-clause-most
returns-clause-most c = is_above_all
