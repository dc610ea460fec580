use Rattle.std.proofs.Common.{◌≡◌, ◌++◌, map, take}
use Rattle.std.specs.List.{flat_map}
use Rattle.day_page.specs.Courses.{course, series}
use Rattle.day_page.proofs.courses.put_courses.Given as goal

abbrev pub invariant-loop-index : goal.invariant-loop-index
invariant-loop-index l = record {
  courses : l.courses.items ≡ l.initial.courses.items ++ map (course l.setting.day l.shown l.journal.history) (take l.index l.shown);
  points : l.points.items ≡ l.initial.points.items ++ flat_map (series l.setting.day l.shown l.journal.history) (take l.index l.shown);
}
