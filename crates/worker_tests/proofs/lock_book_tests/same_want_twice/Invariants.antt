use Rattle.worker_tests.proofs.lock_book_tests.same_want_twice.Given as goal

abbrev pub ghosts-twice : goal.ghosts-twice
ghosts-twice g a = record { table = a.kit.table; day = a.kit.day }
