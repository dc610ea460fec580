use Rattle.std.proofs.Common.{◌≡◌, ◌∙◌, ◌-◌, ◌≤◌, ◌++◌, ◌∷◌, [], ℕ, Option, None, ap, arith, length, replicate, subst, sym, vec_len}
use Rattle.std.proofs.lemmas.List.{length-append, length-replicate}
use Rattle.payment_queue.specs.Queued.{Queued}
use Rattle.pending_items.specs.Items.{IsSound, Lists, arrived}
use Rattle.pending_items.proofs.Grown.{sound_arrived}
use Rattle.pending_items.proofs.rows.ItemRows.push.Goals as goal

pub push_reserved-requires : goal.push_reserved-requires
push_reserved-requires c =
    let room : 1 ≤ c.self.inside.room = subst (λ (v : Lists). 1 ≤ v.room) (sym c.self.view_is) c.requires.messages in
    let starts = c.self.invariant.1 in
    omega (arith, room, starts)

pub push_slots-requires : goal.push_slots-requires
push_slots-requires c =
    let items : c.args.items ≤ c.self.inside.queue.room = subst (λ (v : Lists). c.args.items ≤ v.queue.room) (sym c.self.view_is) c.requires.items in
    let slots = c.self.invariant.2 in
    omega (arith, items, slots)

pub grow-requires : goal.grow-requires
grow-requires c = subst (λ (v : Lists). c.args.items ≤ v.queue.room) (sym c.self.view_is) c.requires.items

pub invariant_of-self : goal.invariant_of-self
invariant_of-self c =
    let items : c.args.items ≤ c.self.inside.queue.room = subst (λ (v : Lists). c.args.items ≤ v.queue.room) (sym c.self.view_is) c.requires.items in
    let one : 1 ≤ c.self.inside.room = subst (λ (v : Lists). 1 ≤ v.room) (sym c.self.view_is) c.requires.messages in
    let starts = c.self.invariant.1 in
    let slots = c.self.invariant.2 in
    let few = c.self.invariant.3 in
    let starts_len = c.push_reserved.ensures.len in
    let starts_cap = c.push_reserved.ensures.capacity in
    let slots_len = c.push_slots.ensures.len in
    let slots_cap = c.push_slots.ensures.capacity in
    let room = ap (λ (q : Queued). q.room) c.grow.ensures in
    let len = ap length c.push_slots.ensures.slots ∙ length-append c.self.inside.slots.items (replicate c.args.items None) in
    let own : vec_len c.self.inside.slots ≡ length c.self.inside.slots.items = omega arith in
    let more = length-replicate {A = Option ℕ} c.args.items None in (
      subst IsSound (λ i. record { starts = sym (c.push_reserved.ensures.items ∙ ap (λ (n : ℕ). c.self.inside.starts.items ++ n ∷ []) (c.len.ensures ∙ own)) i; slots = sym c.push_slots.ensures.slots i; queue = sym c.grow.ensures i; accounts = c.self.inside.accounts; room = c.self.inside.room - 1 })
          (sound_arrived (record { starts = c.self.inside.starts.items; slots = c.self.inside.slots.items; queue = c.self.inside.queue; accounts = c.self.inside.accounts; room = c.self.inside.room }) c.args.items c.self.invariant.0),
      omega (arith, starts, starts_len, starts_cap, one),
      omega (arith, slots, slots_len, slots_cap, room, items),
      omega (arith, few, len, more, room, items),
    )

pub returns-clause-rows : goal.returns-clause-rows
returns-clause-rows c =
    let own : vec_len c.self.inside.slots ≡ length c.self.inside.slots.items = omega arith in
    (λ i. record { starts = (c.push_reserved.ensures.items ∙ ap (λ (n : ℕ). c.self.inside.starts.items ++ n ∷ []) (c.len.ensures ∙ own)) i; slots = c.push_slots.ensures.slots i; queue = c.grow.ensures i; accounts = c.self.inside.accounts; room = c.self.inside.room - 1 })
    ∙ ap (arrived c.args.items) c.self.view_is

pub returns-clause-few : goal.returns-clause-few
returns-clause-few c =
    let items : c.args.items ≤ c.self.inside.queue.room = subst (λ (v : Lists). c.args.items ≤ v.queue.room) (sym c.self.view_is) c.requires.items in
    let few = c.self.invariant.3 in
    let same : length c.self.inside.slots.items ≡ length c.args.self.now.slots = ap (λ (v : Lists). length v.slots) c.self.view_is in
    omega (arith, items, few, same)
