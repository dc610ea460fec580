use Rattle.live_day.proofs.PieceFacts.{HasTaken}
use Rattle.live_day.proofs.listening.LiveDayListener.hear.Given as goal

abbrev pub invariant-loop-b : goal.invariant-loop-b
invariant-loop-b g l = HasTaken g.D.Hearer.has_heard l.initial.self l.self (g.S.Sink.state l.initial.sink) (g.S.Sink.state l.sink) l.piece l.b-index
