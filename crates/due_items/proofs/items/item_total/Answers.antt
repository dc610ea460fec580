use Rattle.std.proofs.Common.{◌∙◌, ◌≡◌, ◌+◌, ℕ, ap, arith, length, sym}
use Rattle.scan_laws.specs.Numbers.{item_number}
use Rattle.scan_laws.proofs.Sizes.{count-few, number-first, number-last, number-message}
use Rattle.due_items.proofs.RowFacts.{start_below}
use Rattle.due_items.proofs.items.item_total.Goals as goal

pub loop-before-init : goal.loop-before-init
loop-before-init c = sym (number-first c.args.setting.now.day)

pub overflow_add-total-in-loop-before : goal.overflow_add-total-in-loop-before
overflow_add-total-in-loop-before c =
    let day = c.args.setting.now.day in
    let few = count-few day c.args.setting.now.sound in
    let more = number-message day (c.loop-before.before + 1) (omega arith) in
    let all = c.message_count-before-end.ensures.count in
    let low = c.loop-before-test.true in
    let below = start_below day (c.loop-before.before + 1 + 1) (omega arith) (omega (arith, all, low)) in
    let count = c.entry_count.ensures.count in
    let before = c.loop-before.invariant in
    omega (arith, few, more, below, count, before)

pub loop-before-preserved : goal.loop-before-preserved
loop-before-preserved c =
    let day = c.args.setting.now.day in
    let more = number-message day (c.loop-before.before + 1) (omega arith) in
    let count = c.entry_count.ensures.count in
    let before = c.loop-before.invariant in
    omega (arith, more, count, before)

pub returns : goal.returns
returns c =
    let day = c.args.setting.now.day in
    let count = c.message_count-before-end.ensures.count in
    let all : c.loop-before.before + 1 ≡ length day.messages + 1 = omega (arith, count, c.loop-before-test.false, c.loop-before.auto.before-end) in
    c.loop-before.invariant ∙ (ap (λ (m : ℕ). item_number day m 0) all ∙ number-last day)
