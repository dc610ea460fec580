-- What waits to be handed on.
use Rattle.std.specs.Prelude.{ℕ, Bool, if◌then◌else◌, List, [], drop}

-- of what came last, what is kept and isn't handed on yet
abbrev pub waiting : List ℕ → ℕ → Bool → List ℕ
waiting queue at is_kept = if is_kept then drop at queue else []
