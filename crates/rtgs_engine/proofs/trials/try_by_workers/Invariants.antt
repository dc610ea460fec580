use Rattle.rtgs_engine.proofs.trials.try_by_workers.Given as goal

abbrev pub ghosts-try_opened : goal.ghosts-try_opened
ghosts-try_opened g a = record { table = a.opened.kit.table; day = a.opened.kit.day }
