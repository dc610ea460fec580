use Rattle.std.proofs.Common.{take}
use Rattle.std.specs.List.{flat_map}
use Rattle.outside_io.specs.Pieces.{HasPut}
use Rattle.batch_records.specs.DayTexts.{account_text}
use Rattle.batch_records.proofs.put.put_accounts.Given as goal

abbrev pub invariant-loop-account : goal.invariant-loop-account
invariant-loop-account g l =
    HasPut (g.S.Sink.state l.initial.sink) (g.S.Sink.state l.sink) (flat_map account_text (take l.account-index l.accounts))
