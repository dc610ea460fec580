use Rattle.std.proofs.Common.{arith, refl}
use Rattle.live_day.proofs.ReadFacts.{no_line, none_broken}
use Rattle.live_day.proofs.listening.LiveDay.new.Goals as goal

pub returns : goal.returns
returns g c = record { size = refl; stands = record { read = c.new.ensures; going = none_broken; line = no_line; within = omega arith } }
