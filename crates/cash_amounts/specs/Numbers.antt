-- The items of a list by their numbers, which count from 1.
use Rattle.std.specs.Prelude.{ℕ, zero, suc, List, Option, None, slice_get, length}
use Rattle.std.specs.List.{range_with_len}

-- the item of number n
abbrev pub numbered : {X : Type 0} → List X → ℕ → Option X
numbered xs zero = None
numbered xs (suc n) = slice_get xs n

-- the numbers of the items: 1, 2 and so on
abbrev pub numbers : {X : Type 0} → List X → List ℕ
numbers xs = range_with_len 1 (length xs)
