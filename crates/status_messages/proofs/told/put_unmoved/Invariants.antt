use Rattle.machine.specs.Records.Messages.{entries}
use Rattle.status_messages.specs.LineTexts.{rejection}
use Rattle.status_messages.proofs.Unmoved.{Left}
use Rattle.status_messages.proofs.told.put_unmoved.Given as goal

abbrev pub invariant-loop-before : goal.invariant-loop-before
invariant-loop-before g l =
    Left (g.S.Sink.state l.initial.sink) (g.S.Sink.state l.sink) (rejection l.setting.day l.place l.n) (entries l.setting.day l.n) l.moves l.before l.next
