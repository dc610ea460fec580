use Rattle.std.proofs.Common.{take}
use Rattle.as_client.specs.Turnovers.{AreTurnovers}
use Rattle.as_client.proofs.netting.turnovers.Given as goal

abbrev pub invariant-loop-trade : goal.invariant-loop-trade
invariant-loop-trade l = AreTurnovers (take l.trade-index l.trades) l.turnovers
