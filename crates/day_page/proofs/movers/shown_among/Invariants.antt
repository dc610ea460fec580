use Rattle.std.proofs.Common.{◌≡◌, take}
use Rattle.std.specs.List.{flat_map}
use Rattle.day_page.specs.Courses.{shown_part}
use Rattle.day_page.proofs.movers.shown_among.Given as goal

abbrev pub invariant-loop-one : goal.invariant-loop-one
invariant-loop-one l = l.shown.items ≡ flat_map (shown_part l.most l.movers) (take l.one-index l.movers)
