use Rattle.std.proofs.Common.{◌∙◌, Some, arith}
use Rattle.due_items.proofs.KeptRow.{kept_past, kept_there}
use Rattle.due_items.proofs.row.item_at.Goals as goal

pub entry_at-requires : goal.entry_at-requires
entry_at-requires c =
    let within = c.in-Some.ensures.lookup.3.0 in
    omega (arith, within, c.requires)

pub returns-in-Some : goal.returns-in-Some
returns-in-Some c =
    (λ i. Some (record { msg = c.in-Some.n.now; entry = c.entry_at.ensures i }))
    ∙ kept_there c.args.starts.now c.args.messages.now c.args.i c.in-Some.n.now c.in-Some.ensures.lookup.3.0 (c.in-Some.ensures.lookup.3.1 0)

pub returns-in-None : goal.returns-in-None
returns-in-None c = kept_past c.args.starts.now c.args.messages.now c.args.i c.in-None.ensures.lookup.3
