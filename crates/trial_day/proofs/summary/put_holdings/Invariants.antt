use Rattle.outside_io.specs.Pieces.{HasPut}
use Rattle.machine.specs.Telling.Balances.{balance}
use Rattle.trial_day.proofs.SummaryTexts.{so_far}
use Rattle.trial_day.proofs.summary.put_holdings.Given as goal

abbrev pub invariant-loop-before : goal.invariant-loop-before
invariant-loop-before g l = HasPut (g.S.Sink.state l.initial.sink) (g.S.Sink.state l.sink) (so_far (balance l.setting.day l.journal.history) l.before)
