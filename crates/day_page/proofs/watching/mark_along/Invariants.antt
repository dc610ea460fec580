use Rattle.std.proofs.Common.{◌≡◌}
use Rattle.std.specs.List.{flat_map}
use Rattle.commit_journal.specs.Histories.{oldest}
use Rattle.day_facts.specs.Facts.{StandsFor}
use Rattle.day_page.specs.Bars.{marks_at}
use Rattle.day_page.specs.Stops.{earlier_stops}
use Rattle.day_page.proofs.watching.mark_along.Given as goal

abbrev pub invariant-loop-before : goal.invariant-loop-before
invariant-loop-before l = record {
  stands : StandsFor l.setting.day (oldest l.journal.history l.before) l.facts;
  marks : l.marks.items ≡ flat_map (marks_at l.setting.day l.bars) (earlier_stops (oldest l.journal.history l.before));
}
