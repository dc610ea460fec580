use Rattle.std.proofs.Common.{◌≡◌, map}
use Rattle.std.specs.List.{range_with_len}
use Rattle.day_page.specs.Courses.{mover}
use Rattle.day_page.proofs.movers.movers.Given as goal

abbrev pub invariant-loop-before : goal.invariant-loop-before
invariant-loop-before l = l.movers.items ≡ map (mover l.setting.day l.request l.journal.history) (range_with_len 1 l.before)
