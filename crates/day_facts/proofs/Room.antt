-- The room for what is still to come.
use Rattle.std.proofs.Common.{◌≡◌, ℕ, suc, ◌+◌, ◌-◌, ◌≤◌, length, ap, arith}
use Rattle.batch_records.specs.DayRecord.{Day}
use Rattle.machine.specs.Records.Messages.{entries}
use Rattle.day_facts.specs.Arrivals.{with_row}
use Rattle.day_facts.specs.Facts.{Facts, FactsRoom}
use Rattle.day_facts.specs.Room.{HasRoom}

pub room_there : (messages more : ℕ) (facts : Facts) → facts.room ≡ record { messages = messages; items = messages + more } → HasRoom messages more facts
room_there messages more facts same =
    let count : facts.room.messages ≡ messages = ap (λ (r : FactsRoom). r.messages) same in
    let size : facts.room.items ≡ messages + more = ap (λ (r : FactsRoom). r.items) same in
    record { for_messages = omega (arith, count); for_items = omega (arith, size) }

-- facts that can take so many can take fewer
pub room_less : (messages more fewer less : ℕ) (facts : Facts) → fewer ≤ messages → less ≤ more → HasRoom messages more facts → HasRoom fewer less facts
room_less messages more fewer less facts a b room =
    let few = room.for_messages in
    let small = room.for_items in
    record { for_messages = omega (arith, a, few); for_items = omega (arith, a, b, small) }

-- facts in as much room
pub room_as : (messages more : ℕ) (facts new : Facts) → new.room ≡ facts.room → HasRoom messages more facts → HasRoom messages more new
room_as messages more facts new same room =
    let count : new.room.messages ≡ facts.room.messages = ap (λ (r : FactsRoom). r.messages) same in
    let size : new.room.items ≡ facts.room.items = ap (λ (r : FactsRoom). r.items) same in
    let few = room.for_messages in
    let small = room.for_items in
    record { for_messages = omega (arith, count, few); for_items = omega (arith, size, small) }

-- one message has come
pub room_left : (day : Day) (n messages more : ℕ) (facts new : Facts) → new ≡ with_row day n facts → HasRoom (messages + 1) (more + length (entries day n)) facts → HasRoom messages more new
room_left day n messages more facts new e room =
    let count : new.room.messages ≡ facts.room.messages - 1 = ap (λ (f : Facts). f.room.messages) e in
    let size : new.room.items ≡ facts.room.items - suc (length (entries day n)) = ap (λ (f : Facts). f.room.items) e in
    let few = room.for_messages in
    let small = room.for_items in
    record { for_messages = omega (arith, count, few); for_items = omega (arith, size, small) }
