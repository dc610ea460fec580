use Rattle.std.proofs.Common.{◌≡◌, ◌++◌, map, take}
use Rattle.commit_journal.specs.Histories.{oldest}
use Rattle.day_page.specs.Bars.{mark}
use Rattle.day_page.proofs.bars.put_marks.Given as goal

abbrev pub invariant-loop-n : goal.invariant-loop-n
invariant-loop-n l = l.marks.items ≡ l.initial.marks.items ++ map (mark l.past.setting.now.day (oldest l.past.journal.now.history l.past.place)) (take l.n-index l.bars)
