use Rattle.std.proofs.Common.{◌∙◌, ◌++◌, ◌∷◌, [], ℕ, List, ap, arith, length}
use Rattle.due_items.specs.Row.{items_kept}
use Rattle.due_items.proofs.KeptRow.{none_kept}
use Rattle.due_items.proofs.row.ItemRow.empty.Goals as goal

pub invariant_of-result : goal.invariant_of-result
invariant_of-result c =
    let starts_len = c.in_ok-starts.ensures.len in
    let starts_cap = c.in_ok-starts.ensures.capacity in
    let pushed_len = c.push_reserved.ensures.len in
    let pushed_cap = c.push_reserved.ensures.capacity in
    let messages_len = c.in_ok-messages.ensures.len in
    let messages_cap = c.in_ok-messages.ensures.capacity in
    let none = ap length c.in_ok-messages.ensures.items in (
      none_kept _ c.in_ok-messages.messages.items (c.push_reserved.ensures.items ∙ ap (λ (xs : List ℕ). xs ++ 0 ∷ []) c.in_ok-starts.ensures.items) c.in_ok-messages.ensures.items,
      omega (arith, starts_len, starts_cap, pushed_len, pushed_cap),
      omega (arith, messages_len, messages_cap),
      omega (arith, none),
    )

pub returns : goal.returns
returns c =
    let first = c.push_reserved.ensures.items ∙ ap (λ (xs : List ℕ). xs ++ 0 ∷ []) c.in_ok-starts.ensures.items in
    λ i. record { starts = first i; items = items_kept (first i) (c.in_ok-messages.ensures.items i); room = c.args.room }
