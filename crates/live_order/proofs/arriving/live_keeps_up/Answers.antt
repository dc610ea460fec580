use Rattle.live_order.proofs.Events.KeepsUp.{live_takes, live_stops, live_speaks, live_settles, live_is_idle}
use Rattle.live_order.proofs.Events.AtStops.{live_at_stops}
use Rattle.live_order.proofs.arriving.live_keeps_up.Goals as goal

pub returns-clause-taken : goal.returns-clause-taken
returns-clause-taken c = live_takes

pub returns-clause-clock : goal.returns-clause-clock
returns-clause-clock c = live_stops

pub returns-clause-speaks : goal.returns-clause-speaks
returns-clause-speaks c = live_speaks

pub returns-clause-settled : goal.returns-clause-settled
returns-clause-settled c = live_settles

pub returns-clause-idle : goal.returns-clause-idle
returns-clause-idle c = live_is_idle

pub returns-clause-stops : goal.returns-clause-stops
returns-clause-stops c = live_at_stops
