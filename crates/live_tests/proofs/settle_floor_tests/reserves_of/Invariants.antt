use Rattle.std.proofs.Common.{◌≡◌, take}
use Rattle.live_tests.proofs.settle_floor_tests.reserves_of.Given as goal

abbrev pub invariant-loop-reserve : goal.invariant-loop-reserve
invariant-loop-reserve g l = l.kept ≡ take l.reserve-index l.reserves
