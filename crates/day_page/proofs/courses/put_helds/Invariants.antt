use Rattle.std.proofs.Common.{◌≡◌, ◌++◌, ◌∷◌, [], map, take}
use Rattle.day_page.specs.Extents.{held_in}
use Rattle.day_page.proofs.courses.put_helds.Given as goal

abbrev pub invariant-loop-a : goal.invariant-loop-a
invariant-loop-a l = l.helds.rows ≡ l.fn.helds.rows ++ map (held_in l.extents) (take l.a-index l.shown) ∷ []
