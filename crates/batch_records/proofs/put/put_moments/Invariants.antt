use Rattle.std.proofs.Common.{drop}
use Rattle.batch_records.proofs.PutFacts.{HasMoments}
use Rattle.batch_records.proofs.put.put_moments.Given as goal

abbrev pub invariant-loop-i : goal.invariant-loop-i
invariant-loop-i g l =
    HasMoments (g.S.Sink.state l.initial.sink) (g.S.Sink.state l.sink) l.version l.stops l.day.messages l.passed (drop l.i l.day.messages)
