use Rattle.std.proofs.Common.{◌≡◌, ◌+◌, drop, ap, ◌∙◌}
use Rattle.std.specs.List.{list_all}
use Rattle.machine.specs.Records.Messages.{technical_of}
use Rattle.machine.specs.Stages.Pending.{debtors, item, stands_on}
use Rattle.machine.specs.Making.Reasons.{blocked_on}
use Rattle.rule_book.specs.Moves.{entry_moves}
use Rattle.rule_book.proofs.MoveFacts.{debtors_are}
use Rattle.proc_b.specs.Reasons.{debtors_in}
use Rattle.proc_b.proofs.Debtors.{blocked-found, blocked-passed, debtor-first, item_first, stands_there}
use Rattle.proc_b.proofs.booking.first_blocked.Goals as goal

pub loop-found-init : goal.loop-found-init
loop-found-init g c =
    let day = g.D.Desk.day c.args.desk.now in
    let past = g.D.Desk.past c.args.desk.now in
    let n = c.args.n in
    let technical = c.technical_of-technical.ensures ∙ ap (λ d. technical_of d n) c.setting.ensures in
    let listed = c.entry_moves-found-items.ensures ∙ ap (λ d. entry_moves d n) c.setting-2.ensures in
    let all : debtors_in c.technical_of-technical.result c.entry_moves-found-items.result.now ≡ debtors day n = (λ i. debtors_in (technical i) (listed i)) ∙ debtors_are day n in
    record {
      same = ap (blocked_on day past (item n 0)) all;
      there = ap (list_all (λ a. stands_on day a (item n 0))) all ∙ stands_there day n c.requires.batch;
    }

pub blocked_for-requires-clause-there : goal.blocked_for-requires-clause-there
blocked_for-requires-clause-there g c =
    let day = g.D.Desk.day c.args.desk.now in
    let n = c.args.n in
    let items = c.entry_moves-found-items.result.now in
    let first = item_first items c.loop-found.found-index c.found-item.result c.loop-found-test.true c.found-item.is in
    (debtor-first (λ a. stands_on day a (item n 0)) day n c.technical_of-technical.result c.found-item.result (drop c.loop-found.found-index items) (drop (c.loop-found.found-index + 1) items) first c.loop-found.invariant.there).0

pub returns-in-Some : goal.returns-in-Some
returns-in-Some g c =
    let day = g.D.Desk.day c.args.desk.now in
    let past = g.D.Desk.past c.args.desk.now in
    let items = c.entry_moves-found-items.result.now in
    let first = item_first items c.loop-found.found-index c.found-item.result c.loop-found-test.true c.found-item.is in
    blocked-found day past c.args.n c.technical_of-technical.result c.found-item.result (drop c.loop-found.found-index items) (drop (c.loop-found.found-index + 1) items) c.in-Some.why first c.in-Some.ensures
    ∙ c.loop-found.invariant.same

pub loop-found-preserved : goal.loop-found-preserved
loop-found-preserved g c =
    let day = g.D.Desk.day c.args.desk.now in
    let past = g.D.Desk.past c.args.desk.now in
    let n = c.args.n in
    let items = c.entry_moves-found-items.result.now in
    let first = item_first items c.loop-found.found-index c.found-item.result c.loop-found-test.true c.found-item.is in
    record {
      same = blocked-passed day past n c.technical_of-technical.result c.found-item.result (drop c.loop-found.found-index items) (drop (c.loop-found.found-index + 1) items) first c.in_default.ensures ∙ c.loop-found.invariant.same;
      there = (debtor-first (λ a. stands_on day a (item n 0)) day n c.technical_of-technical.result c.found-item.result (drop c.loop-found.found-index items) (drop (c.loop-found.found-index + 1) items) first c.loop-found.invariant.there).1;
    }
