-- Room for all that can come.
use Rattle.std.proofs.Common.{◌≡◌, ℕ, ◌≤◌, arith}

pub holds_all : (room most : ℕ) → room ≡ most → most ≤ room
holds_all room most e = omega (arith, e)
