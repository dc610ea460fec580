use Rattle.day_page.proofs.HighestFacts.{is_above, is_highest}
use Rattle.day_page.proofs.laws.highest_is_a_balance.Goals as goal

pub returns-clause-one : goal.returns-clause-one
returns-clause-one c = is_highest

pub returns-clause-most : goal.returns-clause-most
returns-clause-most c = is_above
