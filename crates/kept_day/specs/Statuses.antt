-- The status of a day that is kept.
use Rattle.std.specs.Prelude.{ℕ, ◌==◌, ◌||◌, nat_lt, not, if◌then◌else◌, Option, Some, None}
use Rattle.kept_port.specs.declared.keeper.Halt.{Halt}
use Rattle.kept_port.specs.declared.keeper.Halt.TheVariants as halts

-- why a read failed
abbrev pub halted : Option Halt → ℕ
halted None = 4
halted (Some halts.Ended) = 3
halted (Some halts.ReadFailed) = 4
halted (Some halts.NotKept) = 8
halted (Some halts.Short) = 6

-- by the status of the day, why nothing more was handed on, and how much of what was written before didn't come
abbrev pub status_of : ℕ → Option Halt → ℕ → ℕ
status_of status halt left =
    if status == 1 || status == 5 then status
    else if nat_lt 0 left then 6
    else if not (status == 4) then status
    else halted halt
