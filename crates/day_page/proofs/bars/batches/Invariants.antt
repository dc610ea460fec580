use Rattle.std.proofs.Common.{◌≡◌}
use Rattle.std.specs.List.{flat_map, range_with_len}
use Rattle.commit_journal.specs.Histories.{oldest}
use Rattle.day_page.specs.Bars.{bar_part}
use Rattle.day_page.proofs.bars.batches.Given as goal

abbrev pub invariant-loop-before : goal.invariant-loop-before
invariant-loop-before l = record {
  items : l.batches.items ≡ flat_map (bar_part l.past.setting.now.day l.request (oldest l.past.journal.now.history l.past.place)) (range_with_len 1 l.before);
}
