use Rattle.std.proofs.Common.{◌≡◌, ◌+◌, ◌≤◌, ◌∙◌, suc, length, map, ap, sym, arith}
use Rattle.std.specs.List.{range_with_len}
use Rattle.machine.specs.Records.Messages.{entries}
use Rattle.day_facts.proofs.Lists.{row_more}
use Rattle.pending_items.specs.Numbers.{start}
use Rattle.pending_items.proofs.NumberFacts.{count_few, start_before, start_first, start_more}
use Rattle.pending_items.proofs.numbers.new_starts.Goals as goal

pub loop-before-init : goal.loop-before-init
loop-before-init c = record { starts = c.new-starts.ensures.items; next = sym (start_first c.args.setting.now.day) }

pub overflow_add-next-in-loop-before : goal.overflow_add-next-in-loop-before
overflow_add-next-in-loop-before c =
    let day = c.args.setting.now.day in
    let n = c.loop-before.before in
    let last : c.message_count-before-end.result ≡ length day.messages = c.message_count-before-end.ensures.count in
    let inside : start day (n + 1) + suc (length (entries day (n + 1))) ≤ start day (suc (length day.messages)) = start_before day (n + 1) (suc (length day.messages)) (omega (arith, last, c.loop-before-test.true)) in
    let few = count_few day c.args.setting.now.sound in
    let count : c.entry_count.result ≡ length (entries day (n + 1)) = c.entry_count.ensures.count in
    let next : c.loop-before.next ≡ start day (n + 1) = c.loop-before.invariant.next in
    omega (arith, inside, few, count, next)

pub loop-before-preserved : goal.loop-before-preserved
loop-before-preserved c =
    let day = c.args.setting.now.day in
    let n = c.loop-before.before in
    let more : start day (suc (n + 1)) ≡ start day (n + 1) + suc (length (entries day (n + 1))) = start_more day (n + 1) in
    let count : c.entry_count.result ≡ length (entries day (n + 1)) = c.entry_count.ensures.count in
    let next : c.loop-before.next ≡ start day (n + 1) = c.loop-before.invariant.next in
    let at : suc (n + 1) ≡ n + 1 + 1 = omega arith in
    let same : start day (suc (n + 1)) ≡ start day (n + 1 + 1) = ap (start day) at in
    record {
      starts = row_more (start day) 1 _ _ n (n + 1) c.loop-before.next (omega arith) c.loop-before.invariant.starts next c.in_ok-push.ensures.items;
      next = omega (arith, more, count, next, same);
    }

pub overflow_add-before : goal.overflow_add-before
overflow_add-before c = omega (arith, c.message_count-before-end.ensures.few, c.loop-before-test.true)

pub overflow_add-next : goal.overflow_add-next
overflow_add-next c = omega (arith, c.entry_count.ensures.few)

pub returns-clause-starts : goal.returns-clause-starts
returns-clause-starts c =
    let day = c.args.setting.now.day in
    let end : c.loop-before.before ≡ length day.messages = omega (arith, c.message_count-before-end.ensures.count, c.loop-before-test.false, c.loop-before.auto.before-end) in
    c.loop-before.invariant.starts ∙ ap (λ n. map (start day) (range_with_len 1 n)) end

pub returns-clause-count : goal.returns-clause-count
returns-clause-count c =
    let day = c.args.setting.now.day in
    let end : c.loop-before.before + 1 ≡ suc (length day.messages) = omega (arith, c.message_count-before-end.ensures.count, c.loop-before-test.false, c.loop-before.auto.before-end) in
    c.loop-before.invariant.next ∙ ap (start day) end
