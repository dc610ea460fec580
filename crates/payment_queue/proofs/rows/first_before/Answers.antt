use Rattle.std.proofs.Common.{sym}
use Rattle.payment_queue.proofs.HeadLemmas.{urgent_blocks, high_blocks, none_blocks}
use Rattle.payment_queue.proofs.IndexLemmas.{live_on}
use Rattle.payment_queue.proofs.rows.first_before.Goals as goal

pub is_slot_ahead-requires : goal.is_slot_ahead-requires
is_slot_ahead-requires c = live_on c.args.rows.now _ _ _ c.head-urgent.ensures.toward.on

pub item_at-requires : goal.item_at-requires
item_at-requires c = live_on c.args.rows.now _ _ _ c.head-urgent.ensures.toward.on

pub is_slot_ahead-requires-2 : goal.is_slot_ahead-requires-2
is_slot_ahead-requires-2 c = live_on c.args.rows.now _ _ _ c.head-high.ensures.toward.on

pub item_at-requires-then-is_slot_ahead-2 : goal.item_at-requires-then-is_slot_ahead-2
item_at-requires-then-is_slot_ahead-2 c = live_on c.args.rows.now _ _ _ c.head-high.ensures.toward.on

pub returns-then-is_slot_ahead : goal.returns-then-is_slot_ahead
returns-then-is_slot_ahead c = rw c.item_at.ensures
    (urgent_blocks c.args.rows.now c.args.index.now c.requires.kept c.args.x.account c.args.x c.requires.small c.head-urgent.result c.head-urgent.ensures
    (sym c.if-is_slot_ahead.ensures))

pub returns-then-is_slot_ahead-2 : goal.returns-then-is_slot_ahead-2
returns-then-is_slot_ahead-2 c = rw c.item_at-then-is_slot_ahead-2.ensures
    (high_blocks c.args.rows.now c.args.index.now c.requires.kept c.args.x.account c.args.x c.requires.small c.head-urgent.result c.head-high.result c.head-urgent.ensures
    (sym c.if-is_slot_ahead.ensures) c.head-high.ensures (sym c.if-is_slot_ahead-2.ensures))

pub returns : goal.returns
returns c = none_blocks c.args.rows.now c.args.index.now c.requires.kept c.args.x.account c.args.x c.requires.small c.head-urgent.result c.head-high.result c.head-urgent.ensures
    (sym c.if-is_slot_ahead.ensures) c.head-high.ensures (sym c.if-is_slot_ahead-2.ensures)
