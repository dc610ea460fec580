use Rattle.worker_tests.proofs.lock_book_tests.one_pass_settles_a_batch.Given as goal

abbrev pub ghosts-settled : goal.ghosts-settled
ghosts-settled g a = record { table = a.kit.table; day = a.kit.day }
