use Rattle.std.proofs.Common.{take}
use Rattle.std.specs.List.{flat_map}
use Rattle.outside_io.specs.Pieces.{HasPut}
use Rattle.machine.specs.Records.Setup.{account_numbers}
use Rattle.as_client.specs.KeptTexts.{holding_kept}
use Rattle.as_client.proofs.report.put_holdings.Given as goal

abbrev pub invariant-loop-before : goal.invariant-loop-before
invariant-loop-before g l =
    HasPut (g.S.Sink.state l.initial.sink) (g.S.Sink.state l.sink) (flat_map (holding_kept l.day l.party) (take l.before (account_numbers l.day)))
