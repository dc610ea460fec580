use Rattle.std.proofs.lemmas.Bool.{false≢true}
use Rattle.lock_book.proofs.held_floor.HeldFloor.step.Goals as goal

pub work-requires-clause-next : goal.work-requires-clause-next
work-requires-clause-next g c = λ is. absurd (false≢true is)
