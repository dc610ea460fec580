use Rattle.lock_book.proofs.Taking.{rounds_kept, taken_kept}
use Rattle.lock_book.proofs.laws.taken_stays.Goals as goal

pub returns-clause-message : goal.returns-clause-message
returns-clause-message c = taken_kept

pub returns-clause-rounds : goal.returns-clause-rounds
returns-clause-rounds c = rounds_kept
