use Rattle.std.proofs.Common.{◌≡◌, ◌+◌, drop, ap, ◌∙◌}
use Rattle.std.specs.Prelude.{option_map}
use Rattle.std.specs.List.{find, list_all}
use Rattle.machine.specs.Records.Messages.{technical_of}
use Rattle.machine.specs.Stages.Pending.{debtors}
use Rattle.machine.specs.Making.Lines.{is_short_debtor}
use Rattle.machine.specs.Making.Reasons.{short}
use Rattle.rule_book.specs.Moves.{entry_moves}
use Rattle.rule_book.proofs.MoveFacts.{debtors_are}
use Rattle.proc_b.specs.Reasons.{debtors_in}
use Rattle.proc_b.proofs.Debtors.{debtor-first, item_first, short-found, short-passed}
use Rattle.proc_b.proofs.booking.first_short.Goals as goal

pub loop-found-init : goal.loop-found-init
loop-found-init g c =
    let day = g.D.Desk.day c.args.desk.now in
    let past = g.D.Desk.past c.args.desk.now in
    let n = c.args.n in
    let technical = c.technical_of-technical.ensures ∙ ap (λ d. technical_of d n) c.setting.ensures in
    let listed = c.entry_moves-found-items.ensures ∙ ap (λ d. entry_moves d n) c.setting-2.ensures in
    let all : debtors_in c.technical_of-technical.result c.entry_moves-found-items.result.now ≡ debtors day n = (λ i. debtors_in (technical i) (listed i)) ∙ debtors_are day n in
    record {
      same = ap (λ accounts. option_map (short day past) (find (is_short_debtor day past n) accounts)) all;
      held = ap (list_all (g.D.Desk.held c.args.desk.now)) all ∙ c.requires;
    }

pub short_for-requires : goal.short_for-requires
short_for-requires g c =
    let day = g.D.Desk.day c.args.desk.now in
    let items = c.entry_moves-found-items.result.now in
    let first = item_first items c.loop-found.found-index c.found-item.result c.loop-found-test.true c.found-item.is in
    record { held = (debtor-first (g.D.Desk.held c.args.desk.now) day c.args.n c.technical_of-technical.result c.found-item.result (drop c.loop-found.found-index items) (drop (c.loop-found.found-index + 1) items) first c.loop-found.invariant.held).0 }

pub returns-in-Some : goal.returns-in-Some
returns-in-Some g c =
    let day = g.D.Desk.day c.args.desk.now in
    let past = g.D.Desk.past c.args.desk.now in
    let items = c.entry_moves-found-items.result.now in
    let first = item_first items c.loop-found.found-index c.found-item.result c.loop-found-test.true c.found-item.is in
    short-found day past c.args.n c.technical_of-technical.result c.found-item.result (drop c.loop-found.found-index items) (drop (c.loop-found.found-index + 1) items) c.in-Some.why first c.in-Some.ensures
    ∙ c.loop-found.invariant.same

pub loop-found-preserved : goal.loop-found-preserved
loop-found-preserved g c =
    let day = g.D.Desk.day c.args.desk.now in
    let past = g.D.Desk.past c.args.desk.now in
    let items = c.entry_moves-found-items.result.now in
    let first = item_first items c.loop-found.found-index c.found-item.result c.loop-found-test.true c.found-item.is in
    record {
      same = short-passed day past c.args.n c.technical_of-technical.result c.found-item.result (drop c.loop-found.found-index items) (drop (c.loop-found.found-index + 1) items) first c.in_default.ensures ∙ c.loop-found.invariant.same;
      held = (debtor-first (g.D.Desk.held c.args.desk.now) day c.args.n c.technical_of-technical.result c.found-item.result (drop c.loop-found.found-index items) (drop (c.loop-found.found-index + 1) items) first c.loop-found.invariant.held).1;
    }
