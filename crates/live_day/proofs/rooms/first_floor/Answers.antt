use Rattle.live_day.proofs.rooms.first_floor.Goals as goal

pub returns-in-Ok-empty-clause-stands : goal.returns-in-Ok-empty-clause-stands
returns-in-Ok-empty-clause-stands c = λ day within. c.in-Ok.ensures.stands day within.accounts within.systems

pub returns-in-Ok-empty-clause-opened : goal.returns-in-Ok-empty-clause-opened
returns-in-Ok-empty-clause-opened c = λ day within. c.in-Ok-empty.ensures.opened day within.accounts within.systems
