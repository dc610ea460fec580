use Rattle.std.proofs.Common.{take}
use Rattle.std.specs.List.{flat_map}
use Rattle.outside_io.specs.Pieces.{HasPut}
use Rattle.machine.specs.Records.Setup.{account_numbers}
use Rattle.closing_balances.specs.Closing.{balance_text}
use Rattle.closing_balances.proofs.closing.put_balances.Given as goal

abbrev pub invariant-loop-before : goal.invariant-loop-before
invariant-loop-before g l =
    HasPut (g.S.Sink.state l.initial.sink) (g.S.Sink.state l.sink) (flat_map (balance_text l.setting.day l.journal.history) (take l.before (account_numbers l.setting.day)))
