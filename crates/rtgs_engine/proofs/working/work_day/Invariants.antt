use Rattle.rtgs_engine.proofs.working.work_day.Given as goal

abbrev pub ghosts-settle_opened : goal.ghosts-settle_opened
ghosts-settle_opened g a = record { table = a.opened.kit.table; day = a.opened.kit.day }
