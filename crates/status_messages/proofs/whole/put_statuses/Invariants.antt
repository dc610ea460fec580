use Rattle.outside_io.specs.Pieces.{HasPut}
use Rattle.commit_journal.specs.Histories.{oldest}
use Rattle.status_messages.specs.Telling.{statuses_text}
use Rattle.status_messages.specs.Walks.{Stands}
use Rattle.status_messages.proofs.whole.put_statuses.Given as goal

abbrev pub invariant-loop-before : goal.invariant-loop-before
invariant-loop-before g l = record {
  put : HasPut (g.S.Sink.state l.initial.sink) (g.S.Sink.state l.sink) (statuses_text l.setting.day (oldest l.journal.history l.before));
  stands : Stands l.setting.day (oldest l.journal.history l.before) l.walk;
}
