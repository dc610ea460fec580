use Rattle.std.proofs.Common.{◌≡◌, drop}
use Rattle.day_page.specs.Extents.{debited_by}
use Rattle.day_page.proofs.extents.debit_all.Given as goal

-- what is left of the moves makes of these what all of them make of the first ones
abbrev pub invariant-loop-one : goal.invariant-loop-one
invariant-loop-one l = debited_by (drop l.one-index l.moves) l.extents ≡ debited_by l.moves l.initial.extents
