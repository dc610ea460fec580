use Rattle.std.proofs.Common.{◌≡◌, length, take}
use Rattle.day_page.specs.Members.{counted}
use Rattle.day_page.proofs.members.count_all.Given as goal

abbrev pub invariant-loop-a : goal.invariant-loop-a
invariant-loop-a l = l.counts ≡ counted (take l.a-index l.members) (length l.initial.counts)
