use Rattle.worker_tests.proofs.lock_book_tests.different_groups_at_once.Given as goal

abbrev pub ghosts-apart : goal.ghosts-apart
ghosts-apart g a = record { table = a.kit.table; day = a.kit.day }
