use Rattle.std.proofs.Common.{◌≡◌, take}
use Rattle.std.specs.List.{flat_map}
use Rattle.day_page.specs.Bars.{changes_of}
use Rattle.day_page.proofs.bars.changes.Given as goal

abbrev pub invariant-loop-n : goal.invariant-loop-n
invariant-loop-n l = l.changes.items ≡ flat_map (changes_of l.marks) (take l.n-index l.bars)
