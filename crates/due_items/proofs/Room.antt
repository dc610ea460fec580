-- What can still come.
use Rattle.std.proofs.Common.{ℕ, ◌≤◌, arith}
use Rattle.due_items.specs.Kept.{Due}
use Rattle.due_items.specs.Room.{HasRoom}

-- who can take so many can take fewer
pub room_less : (messages more fewer less : ℕ) (due : Due) → fewer ≤ messages → less ≤ more → HasRoom messages more due → HasRoom fewer less due
room_less messages more fewer less due a b room =
    let m = room.rows in
    let i = room.items in
    record { rows = omega (arith, a, m); items = omega (arith, a, b, i) }
