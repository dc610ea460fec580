use Rattle.std.proofs.Common.{◌-◌, ◌≤◌, length}
use Rattle.day_chain.proofs.Going.{Way}
use Rattle.day_chain.proofs.top.answer_bytes.Given as goal

abbrev pub invariant-days : goal.invariant-days
invariant-days g l = record {
  inside : l.at ≤ length l.bytes;
  way : Way l.bytes l.at l.ledger (g.S.Sink.state l.initial.output) (g.S.Sink.state l.output);
}

abbrev pub decreases-days : goal.decreases-days
decreases-days g l = length l.bytes - l.at
