use Rattle.lock_book.proofs.Taking.{told_taken}
use Rattle.lock_book.proofs.laws.steps_tell_of_taken.Goals as goal

pub returns : goal.returns
returns c = told_taken
