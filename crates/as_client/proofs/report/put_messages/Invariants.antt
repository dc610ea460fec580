use Rattle.std.proofs.Common.{take}
use Rattle.std.specs.List.{flat_map}
use Rattle.outside_io.specs.Pieces.{HasPut}
use Rattle.machine.specs.Records.Messages.{message_numbers}
use Rattle.as_client.specs.KeptTexts.{message_kept}
use Rattle.as_client.proofs.report.put_messages.Given as goal

abbrev pub invariant-loop-before : goal.invariant-loop-before
invariant-loop-before g l =
    HasPut (g.S.Sink.state l.initial.sink) (g.S.Sink.state l.sink) (flat_map (message_kept l.day l.party) (take l.before (message_numbers l.day)))
