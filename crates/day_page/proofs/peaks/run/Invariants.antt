use Rattle.std.proofs.Common.{◌≡◌}
use Rattle.std.specs.Prelude.{map}
use Rattle.commit_journal.specs.Histories.{oldest}
use Rattle.day_facts.specs.Facts.{StandsFor}
use Rattle.due_items.specs.Kept.{KeepsDue}
use Rattle.day_page.specs.Peaks.{peaks}
use Rattle.day_page.specs.Stakes.{IsKept}
use Rattle.day_page.specs.Stops.{earlier_stops}
use Rattle.day_page.specs.Waits.{waiting}
use Rattle.day_page.proofs.peaks.run.Given as goal

abbrev pub invariant-loop-before : goal.invariant-loop-before
invariant-loop-before l = record {
  stands : StandsFor l.setting.day (oldest l.journal.history l.before) l.facts;
  due : KeepsDue l.setting.day (oldest l.journal.history l.before) l.due;
  kept : IsKept l.setting.day l.request (oldest l.journal.history l.before) l.ledger;
  top : l.top ≡ peaks l.setting.day l.request (oldest l.journal.history l.before);
  waits : l.waits.items ≡ map (waiting l.setting.day l.request) (earlier_stops (oldest l.journal.history l.before));
}
