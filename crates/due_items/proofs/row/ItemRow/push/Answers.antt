use Rattle.std.proofs.Common.{◌≡◌, ◌∙◌, ◌≤◌, ◌++◌, ◌∷◌, [], ap, arith, length, map, subst, sym}
use Rattle.std.specs.Prelude.{vec_len}
use Rattle.std.specs.List.{range_with_len}
use Rattle.std.proofs.lemmas.List.{length-append}
use Rattle.std.proofs.lemmas.List.FromFn.{length-map-range_with_len}
use Rattle.machine.specs.Stages.Pending.{item}
use Rattle.due_items.specs.Row.{Row}
use Rattle.due_items.proofs.KeptRow.{kept_length, lists_kept, lists_pushed}
use Rattle.due_items.proofs.row.ItemRow.push.Goals as goal

next : (c : goal.After-self-2-1) → c.args.n ≡ length c.self.inside.starts.items
next c = c.requires.next ∙ sym (ap (λ (r : Row). length r.starts) c.self.view_is)

at : (c : goal.After-self-2-1) → c.len.result ≡ length c.push_items.new.messages.items
at c = let own : vec_len c.push_items.new.messages ≡ length c.push_items.new.messages.items = omega arith in c.len.ensures ∙ own

pub invariant_of-self : goal.invariant_of-self
invariant_of-self c =
    let one : 1 ≤ c.self.inside.room.messages = subst (λ (r : Row). 1 ≤ r.room.messages) (sym c.self.view_is) c.requires.messages in
    let items : c.args.count ≤ c.self.inside.room.items = subst (λ (r : Row). c.args.count ≤ r.room.items) (sym c.self.view_is) c.requires.items in
    let starts = c.self.invariant.1 in
    let messages = c.self.invariant.2 in
    let few = c.self.invariant.3 in
    let starts_len = c.push_reserved.ensures.len in
    let starts_cap = c.push_reserved.ensures.capacity in
    let messages_len = c.push_items.ensures.len in
    let messages_cap = c.push_items.ensures.capacity in
    let long = ap length c.push_items.ensures.messages ∙ length-append c.self.inside.messages.items (map (λ k. c.args.n) (range_with_len 0 c.args.count)) in
    let size = length-map-range_with_len (λ k. c.args.n) 0 c.args.count in (
      lists_kept c.self.inside.starts.items c.self.inside.messages.items c.push_reserved.new.self.items c.push_items.new.messages.items c.args.n c.len.result c.args.count c.self.invariant.0 (next c) c.push_reserved.ensures.items c.push_items.ensures.messages (at c),
      omega (arith, starts, starts_len, starts_cap, one),
      omega (arith, messages, messages_len, messages_cap, items),
      omega (arith, few, long, size, items),
    )

pub returns-clause-items : goal.returns-clause-items
returns-clause-items c =
    lists_pushed c.self.inside.starts.items c.self.inside.messages.items c.push_reserved.new.self.items c.push_items.new.messages.items c.args.n c.len.result c.args.count c.self.invariant.0 (next c) c.push_reserved.ensures.items c.push_items.ensures.messages
    ∙ ap (λ (r : Row). r.items ++ map (item c.args.n) (range_with_len 0 c.args.count)) c.self.view_is

pub returns-clause-starts : goal.returns-clause-starts
returns-clause-starts c =
    c.push_reserved.ensures.items
    ∙ (λ i. (c.self.view_is i).starts ++ (at c ∙ sym (kept_length c.push_reserved.new.self.items c.push_items.new.messages.items)) i ∷ [])
