use Rattle.std.proofs.Common.{◌≡◌, filter, map, take}
use Rattle.indexmap.specs.IndexMap.{keys}
use Rattle.as_client.specs.Netting.{is_open}
use Rattle.as_client.specs.Turnovers.{position_in}
use Rattle.as_client.proofs.netting.open_positions.Given as goal

abbrev pub invariant-loop-i : goal.invariant-loop-i
invariant-loop-i l = l.positions.items ≡ filter is_open (take l.i (map (position_in l.turnovers) (keys l.turnovers)))
