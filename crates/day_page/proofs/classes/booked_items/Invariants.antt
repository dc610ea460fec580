use Rattle.std.proofs.Common.{◌≡◌, ◌≤◌, ◌*◌, ◌^◌}
use Rattle.std.specs.Prelude.{sum_by}
use Rattle.std.specs.List.{range_with_len}
use Rattle.commit_journal.specs.Histories.{oldest}
use Rattle.day_page.specs.Classes.{booked_item}
use Rattle.day_page.proofs.classes.booked_items.Given as goal

abbrev pub invariant-loop-k : goal.invariant-loop-k
invariant-loop-k l = record {
  sum : l.sum ≡ sum_by (booked_item l.past.setting.now.day (oldest l.past.journal.now.history l.past.place) l.n) (range_with_len 0 l.k);
  small : l.sum ≤ 10 ^ 18 * l.k;
}
