use Rattle.worker_tests.proofs.lock_book_tests.held_floor_makes_line_after_line.Given as goal

abbrev pub ghosts-held : goal.ghosts-held
ghosts-held g a = record { table = a.kit.table; day = a.kit.day }
