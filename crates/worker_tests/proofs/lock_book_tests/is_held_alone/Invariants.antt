use Rattle.worker_tests.proofs.lock_book_tests.is_held_alone.Given as goal

abbrev pub ghosts-inside : goal.ghosts-inside
ghosts-inside g a = record { table = a.kit.table; day = a.kit.day }
