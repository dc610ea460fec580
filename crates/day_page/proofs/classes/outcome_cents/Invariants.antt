use Rattle.std.proofs.Common.{◌≡◌, ◌≤◌, ◌*◌}
use Rattle.std.specs.Prelude.{sum_by}
use Rattle.std.specs.List.{range_with_len}
use Rattle.commit_journal.specs.Histories.{oldest}
use Rattle.day_page.specs.Classes.{outcome_part}
use Rattle.day_page.specs.Running.{most_moved}
use Rattle.day_page.proofs.classes.outcome_cents.Given as goal

abbrev pub invariant-loop-before : goal.invariant-loop-before
invariant-loop-before l = record {
  sum : l.sum ≡ sum_by (outcome_part l.past.setting.now.day l.request (oldest l.past.journal.now.history l.past.place) l.class l.outcome) (range_with_len 1 l.before);
  small : l.sum ≤ most_moved * l.before;
}
