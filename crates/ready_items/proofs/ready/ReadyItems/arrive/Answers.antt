use Rattle.std.proofs.Common.{◌≡◌, ◌∙◌, ◌+◌, ◌≤◌, ◌++◌, ◌∷◌, [], ℕ, ap, arith, length, subst, sym}
use Rattle.std.proofs.lemmas.List.{length-append}
use Rattle.machine.specs.Records.Messages.{entries}
use Rattle.live_order.specs.Longer.{longer}
use Rattle.live_order.proofs.Runs.Speaking.{speaks}
use Rattle.ready_items.specs.Found.{Found}
use Rattle.ready_items.specs.Kept.{KeepsReady, Ready}
use Rattle.scan_laws.specs.Numbers.{item_count}
use Rattle.ready_items.specs.Normals.{IsArrived}
use Rattle.ready_items.specs.Room.{HasRoom}
use Rattle.ready_items.proofs.Longer.{next_size, payments_same, ready_arrives, whole_is}
use Rattle.ready_items.proofs.ready.ReadyItems.arrive.Goals as goal

pub arrive-requires : goal.arrive-requires
arrive-requires c =
    let rows = subst (λ (v : Ready). 1 ≤ v.normals.room) (sym c.self.view_is) c.requires.room.rows in
    omega (arith, rows)

pub grow-requires : goal.grow-requires
grow-requires c =
    let items = subst (λ (v : Ready). 1 + length (entries c.args.setting.now.day c.args.n) ≤ v.found.room) (sym c.self.view_is) c.requires.room.items in
    let same = c.self.invariant in
    let count = c.entry_count-count.ensures.count in
    omega (arith, items, same, count)

pub grow-requires-2 : goal.grow-requires-2
grow-requires-2 c =
    let items = subst (λ (v : Ready). 1 + length (entries c.args.setting.now.day c.args.n) ≤ v.found.room) (sym c.self.view_is) c.requires.room.items in
    let count = c.entry_count-count.ensures.count in
    omega (arith, items, count)

pub invariant_of-self : goal.invariant_of-self
invariant_of-self c =
    let one = c.grow.ensures.room in
    let other = ap (λ (f : Found). f.room) c.grow-2.ensures in
    let same = c.self.invariant in
    omega (arith, one, other, same)

pub returns-clause-room : goal.returns-clause-room
returns-clause-room c = λ messages more enough.
    let size : ℕ = length (entries c.args.setting.now.day c.args.n) in
    let old : HasRoom (messages + 1) (more + size) (record { normals = c.self.inside.normals; alone = c.self.inside.alone.set; found = c.self.inside.found; touched = c.self.inside.touched; at = c.self.inside.at }) = subst (HasRoom (messages + 1) (more + size)) (sym c.self.view_is) enough in
    let r = old.rows in
    let i = old.items in
    let rows = c.arrive.ensures.room in
    let items = ap (λ (f : Found). f.room) c.grow-2.ensures in
    let count = c.entry_count-count.ensures.count in
    record { rows = omega (arith, r, rows); items = omega (arith, i, items, count) }

pub returns-clause-day : goal.returns-clause-day
returns-clause-day c = λ day m ms ss J next legal due keeps.
    let whole = c.args.setting.now.day in
    let v : Ready = record { normals = c.self.inside.normals; alone = c.self.inside.alone.set; found = c.self.inside.found; touched = c.self.inside.touched; at = c.self.inside.at } in
    let k : KeepsReady day J v = subst (KeepsReady day J) (sym c.self.view_is) keeps in
    let number = next.number in
    let count : length (day.messages ++ m ∷ []) ≡ length day.messages + 1 = length-append day.messages (m ∷ []) in
    let size : c.entry_count-count.result + 1 ≡ length (entries whole c.args.n) + 1 = ap (λ (k : ℕ). k + 1) c.entry_count-count.ensures.count in
    let arrived = c.arrive.ensures.arrived (longer day (m ∷ []) []) ms ss J (whole_is whole c.args.n day m ms ss next) due (length day.messages) number (omega (arith, number, count)) (payments_same day (m ∷ []) [] (length day.messages) v.normals (omega arith) k.fits.payments) in
    subst (KeepsReady (longer day (m ∷ []) []) J) (λ i. record { normals = c.arrive.new.self; alone = sym c.grow.ensures.set i; found = sym c.grow-2.ensures i; touched = c.self.inside.touched; at = c.self.inside.at })
    (ready_arrives day m J v c.arrive.new.self (c.entry_count-count.result + 1) (speaks day J legal.before) (ap (λ (k : ℕ). item_count day + k) size ∙ next_size whole c.args.n day m ms ss next) (subst (λ (k : ℕ). IsArrived (longer day (m ∷ []) []) k v.normals c.arrive.new.self) number arrived) k)
