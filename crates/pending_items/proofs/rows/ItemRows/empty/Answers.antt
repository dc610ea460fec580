use Rattle.std.proofs.Common.{◌≡◌, ◌∙◌, ◌+◌, ◌-◌, ◌++◌, ◌∷◌, [], None, ap, arith, length, replicate, subst, sym}
use Rattle.payment_queue.specs.Queued.{Queued, grown}
use Rattle.pending_items.specs.Items.{IsSound}
use Rattle.pending_items.proofs.KeptFacts.{none_sound}
use Rattle.pending_items.proofs.rows.ItemRows.empty.Goals as goal

pub invariant_of-result : goal.invariant_of-result
invariant_of-result c =
    let slots = c.push_reserved.ensures.items ∙ (λ i. c.in_ok-slots.ensures.items i ++ c.no_slot.ensures i ∷ []) in
    let less : c.args.items + 1 - 1 ≡ c.args.items = omega arith in
    let queue = c.grow.ensures ∙ (ap (λ (q : Queued). grown q 1) c.in_ok-queue.ensures ∙ (λ i. record { slots = replicate 1 None; accounts = c.args.accounts; room = less i })) in
    let room = ap (λ (q : Queued). q.room) queue in
    let len = ap length slots in
    let starts_len = c.in_ok-starts.ensures.len in
    let starts_cap = c.in_ok-starts.ensures.capacity in
    let slots_len = c.in_ok-slots.ensures.len in
    let slots_cap = c.in_ok-slots.ensures.capacity in
    let pushed_len = c.push_reserved.ensures.len in
    let pushed_cap = c.push_reserved.ensures.capacity in
    let few = c.requires in (
      subst IsSound (λ i. record { starts = sym c.in_ok-starts.ensures.items i; slots = sym slots i; queue = sym queue i; accounts = c.args.accounts; room = c.args.messages })
          (none_sound [] (c.args.accounts) 1 c.args.messages c.args.items),
      omega (arith, starts_len, starts_cap),
      omega (arith, slots_len, slots_cap, pushed_len, pushed_cap, room),
      omega (arith, len, room, few),
    )

pub returns : goal.returns
returns c =
    let slots = c.push_reserved.ensures.items ∙ (λ i. c.in_ok-slots.ensures.items i ++ c.no_slot.ensures i ∷ []) in
    let less : c.args.items + 1 - 1 ≡ c.args.items = omega arith in
    (λ i. record {
      starts = c.in_ok-starts.ensures.items i;
      slots = slots i;
      queue = (c.grow.ensures ∙ (ap (λ (q : Queued). grown q 1) c.in_ok-queue.ensures ∙ (λ j. record { slots = replicate 1 None; accounts = c.args.accounts; room = less j }))) i;
      accounts = c.args.accounts;
      room = c.args.messages;
    })
