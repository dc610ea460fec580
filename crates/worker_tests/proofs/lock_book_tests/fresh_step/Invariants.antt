use Rattle.worker_tests.proofs.lock_book_tests.fresh_step.Given as goal

abbrev pub ghosts-fresh : goal.ghosts-fresh
ghosts-fresh g a = record { table = a.kit.table; day = a.kit.day }
