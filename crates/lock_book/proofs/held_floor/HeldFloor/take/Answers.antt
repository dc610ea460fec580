use Rattle.lock_book.proofs.held_floor.HeldFloor.take.Goals as goal

pub work-requires-clause-next : goal.work-requires-clause-next
work-requires-clause-next g c = λ is. c.requires.next
