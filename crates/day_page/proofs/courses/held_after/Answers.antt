use Rattle.std.proofs.Common.{◌≤◌, ◌-◌, ◌*◌, ◌^◌, arith, length}
use Rattle.commit_journal.specs.Line.{Line}
use Rattle.commit_journal.specs.Histories.{oldest}
use Rattle.machine.specs.Orders.Bounds.{move_limit}
use Rattle.day_page.specs.Courses.{total}
use Rattle.day_page.proofs.Beginnings.{legal_oldest}
use Rattle.day_page.proofs.MemberFacts.{counts_small, total_moved}
use Rattle.day_page.proofs.Totals.{few_moved, total_small}
use Rattle.day_page.proofs.courses.held_after.Goals as goal

pub came-requires-clause-few : goal.came-requires-clause-few
came-requires-clause-few c =
    let day = c.args.setting.now.day in
    let H = c.args.journal.now.history in
    let l : Line = record { head = c.line.result.0; moves = c.line.result.1.now } in
    few_moved day l (oldest H c.args.place) (oldest H (c.args.place - 1)) c.args.setting.now.sound (legal_oldest day c.args.place H c.requires.legal) c.line.ensures

pub came-requires-clause-counts : goal.came-requires-clause-counts
came-requires-clause-counts c = counts_small c.args.members.now c.args.counts.now c.requires.counts c.requires.few

pub overflow_add-result : goal.overflow_add-result
overflow_add-result c =
    let day = c.args.setting.now.day in
    let H = c.args.journal.now.history in
    let members = c.args.members.now in
    let l : Line = record { head = c.line.result.0; moves = c.line.result.1.now } in
    let moves : length l.moves ≤ move_limit = few_moved day l (oldest H c.args.place) (oldest H (c.args.place - 1)) c.args.setting.now.sound (legal_oldest day c.args.place H c.requires.legal) c.line.ensures in
    let before : total day members (oldest H (c.args.place - 1)) ≤ 10 ^ 18 * length members = total_small day (oldest H (c.args.place - 1)) members c.args.setting.now.sound (legal_oldest day (c.args.place - 1) H c.requires.legal) in
    let held = c.requires.before in
    let few = c.requires.few in
    let came = c.came.ensures.small in
    omega (arith, moves, before, held, few, came)

pub gone-requires-clause-few : goal.gone-requires-clause-few
gone-requires-clause-few c =
    let day = c.args.setting.now.day in
    let H = c.args.journal.now.history in
    let l : Line = record { head = c.line.result.0; moves = c.line.result.1.now } in
    few_moved day l (oldest H c.args.place) (oldest H (c.args.place - 1)) c.args.setting.now.sound (legal_oldest day c.args.place H c.requires.legal) c.line.ensures

pub gone-requires-clause-counts : goal.gone-requires-clause-counts
gone-requires-clause-counts c = counts_small c.args.members.now c.args.counts.now c.requires.counts c.requires.few

pub overflow_sub-result : goal.overflow_sub-result
overflow_sub-result c =
    let day = c.args.setting.now.day in
    let H = c.args.journal.now.history in
    let l : Line = record { head = c.line.result.0; moves = c.line.result.1.now } in
    let moved = total_moved day l (oldest H c.args.place) (oldest H (c.args.place - 1)) c.args.members.now c.args.counts.now c.args.held c.came.result c.gone.result (legal_oldest day c.args.place H c.requires.legal) c.line.ensures c.requires.counts c.requires.before c.came.ensures.value c.gone.ensures.value in
    omega (arith, moved)

pub returns : goal.returns
returns c =
    let day = c.args.setting.now.day in
    let H = c.args.journal.now.history in
    let l : Line = record { head = c.line.result.0; moves = c.line.result.1.now } in
    let moved = total_moved day l (oldest H c.args.place) (oldest H (c.args.place - 1)) c.args.members.now c.args.counts.now c.args.held c.came.result c.gone.result (legal_oldest day c.args.place H c.requires.legal) c.line.ensures c.requires.counts c.requires.before c.came.ensures.value c.gone.ensures.value in
    omega (arith, moved)
