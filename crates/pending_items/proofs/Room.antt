-- What can still come.
use Rattle.std.proofs.Common.{ℕ, ◌≤◌, arith}
use Rattle.pending_items.specs.Kept.{KeptItems}
use Rattle.pending_items.specs.Room.{HasRoom}

-- who can take so many can take fewer
pub room_less : (messages more fewer less : ℕ) (v : KeptItems) → fewer ≤ messages → less ≤ more → HasRoom messages more v → HasRoom fewer less v
room_less messages more fewer less v a b room =
    let r = room.rows in
    let i = room.items in
    let e = room.ends in
    let s = room.blocks in
    record { rows = omega (arith, a, r); items = omega (arith, a, b, i); ends = omega (arith, a, e); blocks = omega (arith, a, s) }
