use Rattle.day_reasons.proofs.top.answer_day.Goals as goal

pub returns-in-Ok : goal.returns-in-Ok
returns-in-Ok g c = rw (c.in-Ok.ensures, c.as_slice.ensures) at c.answer_rest.ensures
