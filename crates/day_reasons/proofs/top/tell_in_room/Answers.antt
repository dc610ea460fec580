use Rattle.std.proofs.Common.{inr}
use Rattle.day_reasons.proofs.top.tell_in_room.Goals as goal

pub tell-status-requires-clause-work : goal.tell-status-requires-clause-work
tell-status-requires-clause-work g c = c.in-Ok.ensures.work

pub tell-status-requires-clause-empty : goal.tell-status-requires-clause-empty
tell-status-requires-clause-empty g c = c.in-Ok.ensures.empty

pub tell-status-requires-clause-count : goal.tell-status-requires-clause-count
tell-status-requires-clause-count g c = c.requires.count

pub tell-status-requires-clause-whole : goal.tell-status-requires-clause-whole
tell-status-requires-clause-whole g c = c.requires.whole

pub returns-in-Ok : goal.returns-in-Ok
returns-in-Ok g c = inr c.tell-status.ensures
