-- A text that is put is any that is the same.
use Rattle.std.proofs.Common.{◌≡◌, ℕ, List, subst, Result}
use Rattle.outside_io.specs.Pieces.{SinkState}
use Rattle.outside_io.specs.Calls.{Puts}

-- what puts a text puts another one that is the same
pub same_put : {T E : Type 0} (old new : SinkState) (text all : List ℕ) (result : Result T E) → text ≡ all → Puts old new text result → Puts old new all result
same_put old new text all result same put = subst (λ (bytes : List ℕ). Puts old new bytes result) same put
