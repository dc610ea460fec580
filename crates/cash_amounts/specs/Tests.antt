-- Tests of names and of values that may be absent.
use Rattle.std.specs.Prelude.{ℕ, Bool, false, List, Option, Some, None, bytes_eq}

abbrev pub same_name : List ℕ → List ℕ → Bool
same_name a b = bytes_eq a b

-- whether the value is there and passes
abbrev pub some_passes : {X : Type 0} → (X → Bool) → Option X → Bool
some_passes test None = false
some_passes test (Some x) = test x
