use Rattle.lock_book.proofs.Openings.{has_openings, keeps_openings}
use Rattle.lock_book.proofs.kit.new_floor.Goals as goal

pub returns-clause-openings : goal.returns-clause-openings
returns-clause-openings c = keeps_openings _ _ _ c.open.ensures.empty c.open.ensures.at_work

pub returns-clause-all : goal.returns-clause-all
returns-clause-all c = has_openings _ _ _ c.open.ensures.at_work
