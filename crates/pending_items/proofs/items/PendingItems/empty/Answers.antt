use Rattle.std.proofs.Common.{◌+◌, ◌∙◌, ℕ, [], None, ap, arith, replicate, sym}
use Rattle.live_order.specs.Coming.{setup}
use Rattle.pending_items.specs.Cycles.{Batches}
use Rattle.pending_items.specs.Items.{Lists}
use Rattle.pending_items.proofs.CycleFacts.{none_kept as no_batches_kept}
use Rattle.pending_items.proofs.KeptFacts.{none_kept}
use Rattle.pending_items.proofs.NumberFacts.{start_first}
use Rattle.pending_items.proofs.items.PendingItems.empty.Goals as goal

pub returns-clause-empty : goal.returns-clause-empty
returns-clause-empty c = λ day few_accounts few_systems.
    let items : ℕ = c.args.messages + c.args.entries in
    let few = c.requires.messages in
    record {
      rows = none_kept (setup day) (c.args.accounts + 1) c.args.messages items c.in_ok-rows.rows (omega (arith, few_accounts)) (c.in_ok-rows.ensures ∙ (λ i. record {
        starts = [];
        slots = replicate (sym (start_first (setup day)) i) None;
        queue = record { slots = replicate (sym (start_first (setup day)) i) None; accounts = c.args.accounts + 1; room = items };
        accounts = c.args.accounts + 1;
        room = c.args.messages;
      }));
      ends = c.in_ok-ends.ensures.ends (setup day);
      batches = no_batches_kept (setup day) c.args.systems (c.args.messages + 1) c.in_ok-batches.batches few_systems (omega arith) (omega (arith, few)) c.in_ok-batches.ensures;
    }

pub returns-clause-room : goal.returns-clause-room
returns-clause-room c =
    let rows = ap (λ (v : Lists). v.room) c.in_ok-rows.ensures in
    let items = ap (λ (v : Lists). v.queue.room) c.in_ok-rows.ensures in
    let ends = c.in_ok-ends.ensures.room in
    let long = c.in_ok-ends.ensures.long in
    let size = ap (λ (b : Batches). b.size) c.in_ok-batches.ensures in
    record { rows = omega (arith, rows); items = omega (arith, items); ends = omega (arith, ends); blocks = omega (arith, long, size) }
