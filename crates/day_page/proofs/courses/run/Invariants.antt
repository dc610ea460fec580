use Rattle.std.proofs.Common.{◌≡◌, ◌++◌}
use Rattle.std.specs.Prelude.{map}
use Rattle.commit_journal.specs.Histories.{oldest}
use Rattle.day_page.specs.Courses.{point}
use Rattle.day_page.specs.Extents
use Rattle.day_page.specs.Extents.{held_at_stops}
use Rattle.day_page.specs.Running.{running}
use Rattle.day_page.specs.Stops.{earlier_stops}
use Rattle.day_page.proofs.courses.run.Given as goal

abbrev pub invariant-loop-before : goal.invariant-loop-before
invariant-loop-before l = record {
  at : l.at ≡ running l.setting.day l.shown (oldest l.journal.history l.before);
  points : l.points.items ≡ l.initial.points.items ++ map (point l.setting.day l.shown 0) (earlier_stops (oldest l.journal.history l.before));
  helds : l.helds.rows ≡ l.initial.helds.rows ++ held_at_stops l.setting.day l.shown (oldest l.journal.history l.before);
  extents : l.extents ≡ Extents.extents l.setting.day (oldest l.journal.history l.before);
}
