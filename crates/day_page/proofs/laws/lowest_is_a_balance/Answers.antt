use Rattle.day_page.proofs.LowestFacts.{is_below, is_lowest}
use Rattle.day_page.proofs.laws.lowest_is_a_balance.Goals as goal

pub returns-clause-one : goal.returns-clause-one
returns-clause-one c = is_lowest

pub returns-clause-least : goal.returns-clause-least
returns-clause-least c = is_below
