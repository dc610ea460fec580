use Rattle.std.proofs.Common.{◌≡◌, ◌-◌, length}
use Rattle.lane_workers.specs.Seen.{AreTakenBelow, IsReached}
use Rattle.lane_workers.proofs.rounds.run.Given as goal

-- the hall's round is reached, and the messages of the rounds before the next are taken
abbrev pub invariant-rounds : goal.invariant-rounds
invariant-rounds g l = record {
  table : l.pass.table ≡ g.H.HallName.table;
  lane : l.pass.lane ≡ 0;
  round : IsReached g.H.HallName.day l.hall l.pass.lines;
  below : AreTakenBelow g.H.HallName.day l.next l.pass.lines;
}

abbrev pub decreases-rounds : goal.decreases-rounds
decreases-rounds g l = length g.H.HallName.day.stops - l.hall
