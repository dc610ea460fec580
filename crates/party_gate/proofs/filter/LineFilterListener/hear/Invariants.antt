use Rattle.std.proofs.Common.{◌≤◌, ◌+◌, length}
use Rattle.party_gate.specs.Passing.{longest_told}
use Rattle.party_gate.proofs.PieceFacts.{HasTaken}
use Rattle.party_gate.proofs.filter.LineFilterListener.hear.Given as goal

abbrev pub invariant-loop-b : goal.invariant-loop-b
invariant-loop-b g l = record {
  taken : HasTaken g.N.PartyName.name l.initial.self l.self (g.S.Sink.state l.initial.sink) (g.S.Sink.state l.sink) l.piece l.b-index;
  small : l.self.size + length l.piece ≤ longest_told + 1 + l.b-index;
}
