use Rattle.std.proofs.Common.{◌≡◌, ◌∙◌, ◌+◌, ◌-◌, ◌≤◌, ◌++◌, ◌∷◌, [], Bool, ap, arith, length}
use Rattle.std.specs.Prelude.{vec_capacity, vec_len}
use Rattle.machine.specs.Records.Messages.{entries}
use Rattle.rule_book.specs.Rows.{cut}
use Rattle.day_facts.specs.Left.{watched_row}
use Rattle.day_facts.specs.Listed.{Rowed, row_pushed}
use Rattle.day_facts.specs.Rows.{AreHeld}
use Rattle.day_facts.proofs.RowLemmas.{count_each, held_more}
use Rattle.day_facts.proofs.TableFacts.{row_size}
use Rattle.day_facts.proofs.flags.FlagRows.arrive.Goals as goal

pub push_reserved-requires-2 : goal.push_reserved-requires-2
push_reserved-requires-2 c =
    let inside = c.self.inside in
    let each : length inside.standing.items ≡ length inside.ends.items = count_each inside.ends.items inside.items inside.standing.items c.self.invariant.is_counted in
    let room : vec_capacity inside.ends - vec_len inside.ends ≡ c.args.self.now.room_for_rows = ap (λ (r : Rowed Bool). r.room_for_rows) c.self.view_is in
    omega (arith, c.requires.rows, room, c.self.invariant.room, each, inside.standing.ok.0, inside.ends.ok.0)

more : (c : goal.After-push_reserved-2) → AreHeld c.push_reserved.new.self.items c.fill-standing.new.items c.push_reserved-2.new.self.items (c.self.inside.free - (c.entry_count.result + 1)) (vec_capacity c.push_reserved.new.self) (vec_capacity c.push_reserved-2.new.self)
    × (cut 0 c.push_reserved.new.self.items c.fill-standing.new.items ≡ cut 0 c.self.inside.ends.items c.self.inside.items ++ watched_row c.args.watched c.args.setting.now.day c.args.n ∷ [])
more c =
    let inside = c.self.inside in
    let day = c.args.setting.now.day in
    let size = length (entries day c.args.n) + 1 in
    let free : inside.free ≡ c.args.self.now.room_for_items = ap (λ (r : Rowed Bool). r.room_for_items) c.self.view_is in
    let few : size ≤ inside.free = omega (arith, c.requires.items, free) in
    let row : size ≡ length (watched_row c.args.watched day c.args.n) = (let e = row_size c.args.watched day c.args.n in omega (arith, e)) in
    let left : inside.free - (c.entry_count.result + 1) ≡ inside.free - size = omega (arith, c.entry_count.ensures.count) in
    held_more inside.ends.items c.push_reserved.new.self.items inside.items c.fill-standing.new.items (watched_row c.args.watched day c.args.n) inside.standing.items c.push_reserved-2.new.self.items
    c.bound-bound.result inside.free (inside.free - (c.entry_count.result + 1)) size (c.bound-bound.result - (inside.free - (c.entry_count.result + 1))) (c.bound-bound.result - inside.free) c.fill-standing.result
    (vec_capacity inside.ends) (vec_capacity inside.standing) (vec_capacity c.push_reserved.new.self) (vec_capacity c.push_reserved-2.new.self)
    c.self.invariant c.bound-bound.ensures row few left (omega arith) (omega arith) c.fill-standing.ensures.front c.fill-standing.ensures.length c.push_reserved.ensures.items c.fill-standing.ensures.count c.push_reserved-2.ensures.items
    c.push_reserved.ensures.capacity c.push_reserved-2.ensures.capacity

pub invariant_of-self : goal.invariant_of-self
invariant_of-self c = (more c).0

pub returns : goal.returns
returns c =
    let inside = c.self.inside in
    let row = watched_row c.args.watched c.args.setting.now.day c.args.n in
    let size = row_size c.args.watched c.args.setting.now.day c.args.n in
    let rows : vec_capacity c.push_reserved.new.self - vec_len c.push_reserved.new.self ≡ vec_capacity inside.ends - vec_len inside.ends - 1 = omega (arith, c.push_reserved.ensures.len, c.push_reserved.ensures.capacity) in
    let items : inside.free - (c.entry_count.result + 1) ≡ inside.free - length row = omega (arith, size, c.entry_count.ensures.count) in
    (λ i. record { rows = (more c).1 i; room_for_rows = rows i; room_for_items = items i }) ∙ ap (row_pushed row) c.self.view_is
