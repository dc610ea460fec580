use Rattle.std.proofs.Common.{◌≤◌, ◌+◌, ℕ, [], ap, arith, length}
use Rattle.scan_laws.proofs.Sizes.{number-first, number-message}
use Rattle.due_items.specs.declared.row.Room.{Room}
use Rattle.due_items.specs.Row.{HasRoomFor}
use Rattle.due_items.proofs.RowFacts.{start_below}
use Rattle.due_items.proofs.ArrivalFacts.{have_all}
use Rattle.due_items.proofs.items.DueItems.with_room.Goals as goal

pub loop-before-init : goal.loop-before-init
loop-before-init c =
    let day = c.args.setting.now.day in
    let messages = ap (λ (r : Room). r.messages) c.in_ok-due.ensures.room in
    let items = ap (λ (r : Room). r.items) c.in_ok-due.ensures.room in
    let count = c.message_count-count.ensures.count in
    let total = c.item_total.ensures in
    let first = number-first day in
    record {
      have = c.in_ok-due.ensures.have day;
      messages = omega (arith, messages, count);
      items = omega (arith, items, total, first);
    }

pub loop-before-preserved : goal.loop-before-preserved
loop-before-preserved c =
    let day = c.args.setting.now.day in
    let n : ℕ = c.loop-before.before + 1 in
    let inv = c.loop-before.invariant in
    let count = c.message_count-count.ensures.count in
    let low = c.loop-before-test.true in
    let last : n ≤ length day.messages = omega (arith, count, low) in
    let more = number-message day n (omega arith) in
    let below = start_below day (n + 1) (omega arith) (omega (arith, last)) in
    let messages = inv.messages in
    let items = inv.items in
    let enough : HasRoomFor day n c.loop-before.due.index.row.room = (omega (arith, messages, last), omega (arith, items, more, below)) in
    let left = c.take_up.ensures.left enough in
    let left_messages = ap (λ (r : Room). r.messages) left in
    let left_items = ap (λ (r : Room). r.items) left in
    record {
      have = c.take_up.ensures.have [] c.loop-before.before (omega arith) last tt enough inv.have;
      messages = omega (arith, messages, left_messages, last);
      items = omega (arith, items, left_items, more, below);
    }

pub returns : goal.returns
returns c =
    let day = c.args.setting.now.day in
    let count = c.message_count-count.ensures.count in
    have_all day [] c.loop-before.before c.loop-before.due (omega (arith, count, c.loop-before-test.false, c.loop-before.auto.before-end)) c.loop-before.invariant.have
