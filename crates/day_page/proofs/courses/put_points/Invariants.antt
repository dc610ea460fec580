use Rattle.std.proofs.Common.{◌≡◌, ◌++◌, ◌∷◌, [], map, take}
use Rattle.std.specs.Prelude.{slice_index}
use Rattle.day_page.specs.Courses.{point}
use Rattle.day_page.specs.Stops.{earlier_stops}
use Rattle.day_page.proofs.courses.put_points.Given as goal

abbrev pub invariant-loop-stop : goal.invariant-loop-stop
invariant-loop-stop l = l.points.items ≡ l.initial.points.items ++ map (point l.setting.day (slice_index l.shown l.index ∷ []) (slice_index l.shown l.index)) (take l.stop (earlier_stops l.journal.history))
