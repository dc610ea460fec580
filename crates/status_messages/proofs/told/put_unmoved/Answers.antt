use Rattle.std.proofs.Common.{◌<◌, ◌≤◌, length, arith}
use Rattle.machine.specs.Records.Messages.{entries}
use Rattle.status_messages.specs.LineTexts.{rejection}
use Rattle.status_messages.proofs.Unmoved.{entry-at, left-all, left-first, left-front, left-more}
use Rattle.status_messages.proofs.told.put_unmoved.Goals as goal

pub loop-before-init : goal.loop-before-init
loop-before-init g c = left-first _ _ _ _

pub returns-in_err-put_unless : goal.returns-in_err-put_unless
returns-in_err-put_unless g c =
    let es = entries c.args.setting.now.day c.args.n in
    let count = c.entry_count-before-end.ensures.count in
    let inside : c.loop-before.before < length es = omega (arith, count) in
    left-front _ _ _ (rejection c.args.setting.now.day c.args.place c.args.n) es c.args.moves.now c.loop-before.before c.loop-before.next c.index-list-before.result _ _ _ inside
    (entry-at c.entries-list.result.now es c.loop-before.before c.index-list-before.result c.entries-list.ensures c.index-list-before.is) c.is_moved-moved.ensures c.from_residual.ensures.0 c.loop-before.invariant c.in_err-put_unless.ensures

pub loop-before-preserved : goal.loop-before-preserved
loop-before-preserved g c =
    let es = entries c.args.setting.now.day c.args.n in
    let count = c.entry_count-before-end.ensures.count in
    let inside : c.loop-before.before < length es = omega (arith, count) in
    left-more _ _ _ (rejection c.args.setting.now.day c.args.place c.args.n) es c.args.moves.now c.loop-before.before c.loop-before.next c.index-list-before.result _ _ _ inside
    (entry-at c.entries-list.result.now es c.loop-before.before c.index-list-before.result c.entries-list.ensures c.index-list-before.is) c.is_moved-moved.ensures c.taken-next.ensures c.loop-before.invariant c.in_ok-put_unless.ensures

pub returns : goal.returns
returns g c =
    let es = entries c.args.setting.now.day c.args.n in
    let count = c.entry_count-before-end.ensures.count in
    let past : length es ≤ c.loop-before.before = omega (arith, count) in
    left-all _ _ (rejection c.args.setting.now.day c.args.place c.args.n) es c.args.moves.now c.loop-before.before c.loop-before.next _ past c.loop-before.invariant
