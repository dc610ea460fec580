use Rattle.std.proofs.Common.{◌≡◌, [], map}
use Rattle.std.specs.List.{range_with_len}
use Rattle.day_page.specs.Extents.{extent}
use Rattle.day_page.proofs.extents.first_extents.Given as goal

abbrev pub invariant-loop-before : goal.invariant-loop-before
invariant-loop-before l = l.extents.items ≡ map (extent l.setting.day []) (range_with_len 1 l.before)
