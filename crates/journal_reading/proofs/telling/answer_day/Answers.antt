use Rattle.journal_reading.proofs.telling.answer_day.Goals as goal

pub returns-in-Ok : goal.returns-in-Ok
returns-in-Ok g c = rw c.in-Ok.ensures at c.answer_rest.ensures
