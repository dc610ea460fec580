use Rattle.std.proofs.Common.{◌≡◌, ◌≤◌, ℕ, List, length}
use Rattle.outside_io.specs.Gathered.{through}
use Rattle.program_answers.specs.LiveSteps.{IsUnderway}
use Rattle.program_answers.proofs.live_serving.hear_all.Given as goal

abbrev pub invariant-loop-before : goal.invariant-loop-before
invariant-loop-before g l = record {
  heard : List ℕ;
  has : g.L.Listener.has_heard l.listener heard;
  count : l.before ≤ length heard;
  way : IsUnderway g.L.Listener.program g.P.Sink.state l.initial.gathering l.gathering heard;
  same : through l.gathering ≡ through l.initial.gathering;
}
