use Rattle.std.proofs.Common.{◌≡◌, ◌∙◌, ◌+◌, ap, arith, length, suc}
use Rattle.std.specs.Prelude.{sum_by}
use Rattle.std.specs.List.{range_with_len}
use Rattle.commit_journal.specs.Histories.{oldest}
use Rattle.machine.specs.Records.Messages.{entries}
use Rattle.day_page.specs.Classes.{booked_item, booked_items}
use Rattle.day_page.proofs.Ranges.{sum_more}
use Rattle.day_page.proofs.classes.booked_items.Goals as goal

pub overflow_add-sum : goal.overflow_add-sum
overflow_add-sum c =
    let small = c.loop-k.invariant.small in
    let low = c.booked_item.ensures.small in
    let same = c.from-sum.ensures in
    let few = c.entry_count-k-end.ensures.few in
    omega (arith, small, low, same, few)

pub loop-k-preserved : goal.loop-k-preserved
loop-k-preserved c =
    let low = c.booked_item.ensures.small in
    let value = c.booked_item.ensures.value in
    let same = c.from-sum.ensures in
    let small = c.loop-k.invariant.small in
    record {
      sum = sum_more (booked_item c.args.past.now.setting.now.day (oldest c.args.past.now.journal.now.history c.args.past.now.place) c.args.n) 0 c.loop-k.k c.loop-k.k c.loop-k.sum c.from-sum.result _ (omega arith) c.loop-k.invariant.sum (omega (arith, same, value)) (λ i. c.loop-k.sum + c.from-sum.result);
      small = omega (arith, low, same, small);
    }

pub returns-clause-value : goal.returns-clause-value
unfolding booked_items
returns-clause-value c =
    let all : c.loop-k.k ≡ suc (length (entries c.args.past.now.setting.now.day c.args.n)) = omega (arith, c.entry_count-k-end.ensures.count) in
    c.loop-k.invariant.sum ∙ ap (λ len. sum_by (booked_item c.args.past.now.setting.now.day (oldest c.args.past.now.journal.now.history c.args.past.now.place) c.args.n) (range_with_len 0 len)) all

pub returns-clause-small : goal.returns-clause-small
returns-clause-small c =
    let small = c.loop-k.invariant.small in
    let few = c.entry_count-k-end.ensures.few in
    omega (arith, small, few)
