-- What can still come.
use Rattle.std.proofs.Common.{◌∙◌, ℕ, ◌+◌, ◌≤◌, arith, refl, sym, subst}
use Rattle.ready_items.specs.Kept.{Ready}
use Rattle.ready_items.specs.Room.{HasRoom, HasSameRoom}

-- who can take so many can take fewer
pub room_less : (messages more fewer less : ℕ) (v : Ready) → fewer ≤ messages → less ≤ more → HasRoom messages more v → HasRoom fewer less v
room_less messages more fewer less v a b room =
    let r = room.rows in
    let i = room.items in
    record { rows = omega (arith, a, r); items = omega (arith, a, b, i) }

-- who has the room that it had can take what it could
pub room_stays : (old new : Ready) → HasSameRoom old new → (messages more : ℕ) → HasRoom messages more old → HasRoom messages more new
room_stays old new same messages more room = record {
  rows = subst (λ (k : ℕ). messages ≤ k) (sym same.rows) room.rows;
  items = subst (λ (k : ℕ). messages + more ≤ k) (sym same.items) room.items;
}

pub same_room : (v : Ready) → HasSameRoom v v
same_room v = record { rows = refl; items = refl }

pub same_then : (a b c : Ready) → HasSameRoom a b → HasSameRoom b c → HasSameRoom a c
same_then a b c one other = record { rows = other.rows ∙ one.rows; items = other.items ∙ one.items }
