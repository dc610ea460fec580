use Rattle.std.proofs.Common.{◌≤◌, ℕ}
use Rattle.outside_io.specs.Pieces.{HasPut}
use Rattle.day_facts.specs.Room.{HasRoom}
use Rattle.commit_journal.specs.Histories.{oldest}
use Rattle.status_messages.specs.Walks.{Stands}
use Rattle.live_day.specs.Told.{told_behind}
use Rattle.live_day.proofs.telling.tell_behind.Given as goal

abbrev pub invariant-loop-before : goal.invariant-loop-before
invariant-loop-before g l = record {
  behind : l.first ≤ l.before;
  put : HasPut (g.S.Sink.state l.initial.sink) (g.S.Sink.state l.sink) (told_behind l.setting.day l.first (oldest l.journal.history l.before));
  stands : Stands l.setting.day (oldest l.journal.history l.before) l.walk;
  room : (messages more : ℕ) → HasRoom messages more l.initial.walk.facts → HasRoom messages more l.walk.facts;
}
