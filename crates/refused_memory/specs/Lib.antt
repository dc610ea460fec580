use Rattle.std.specs.Prelude.{refl}

-- A request for memory was refused. What it stands for is shut outside this module and those below it: a crate above has it only from a
-- call that answered `Memory`.
pub WasRefused : Type 0
WasRefused = Unit {0}

pub is_fact : IsProp WasRefused
unfolding WasRefused
is_fact x y = refl

-- for the one impl that tells it
refused_by_std : WasRefused
unfolding WasRefused
refused_by_std = tt
