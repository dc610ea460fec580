use Rattle.lock_book.proofs.Taking.{rounds_kept}
use Rattle.worker_tests.proofs.lock_book_tests.book.Goals as goal

pub returns-clause-taken : goal.returns-clause-taken
returns-clause-taken g c = rounds_kept g.H.HallName.day c.args.hall.now c.args.pass.now.lines c.step.new.pass.lines c.step.ensures.before c.requires.taken
