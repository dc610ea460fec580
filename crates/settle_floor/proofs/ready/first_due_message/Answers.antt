-- The items that are passed over aren't due, and those that are asked aren't ready, until one is.
use Rattle.std.proofs.Common.{◌≡◌, ◌∙◌, Some, true, ap, arith, subst, sym}
use Rattle.machine.specs.declared.answers.Item.{Item}
use Rattle.machine.specs.Making.Lines.{is_ready_item, is_ready_message}
use Rattle.scan_laws.specs.Numbers.{IsItem}
use Rattle.scan_laws.proofs.NumberFacts.{item-is}
use Rattle.settle_floor.proofs.FirstReady.{first_found, nothing_found, rest_more}
use Rattle.settle_floor.proofs.ready.first_due_message.Goals as goal

pub is_ready_item-requires-clause-item : goal.is_ready_item-requires-clause-item
is_ready_item-requires-clause-item g c =
    let day = g.D.Desk.day c.args.desk.now in
    let within = c.in-Some.ensures.within in
    subst (λ (x : Item). IsItem day x.msg x.entry) (sym (c.item-item.ensures within)) (item-is day c.in-Some.number within)

pub returns-then-is_ready_item : goal.returns-then-is_ready_item
returns-then-is_ready_item g c =
    let day = g.D.Desk.day c.args.desk.now in
    let past = g.D.Desk.past c.args.desk.now in
    let within = c.in-Some.ensures.within in
    let same = ap (λ (x : Item). x.msg) (c.item-item.ensures within) in
    ap Some same
    ∙ first_found day past c.items.from c.in-Some.number c.in-Some.ensures.next c.items.invariant.before within
    (subst (λ n. is_ready_message day past n ≡ true) same (c.is_ready_item.ensures.ready c.if-is_ready_item.true))

pub items-preserved : goal.items-preserved
items-preserved g c =
    let day = g.D.Desk.day c.args.desk.now in
    let past = g.D.Desk.past c.args.desk.now in
    let within = c.in-Some.ensures.within in
    record {
      low = omega (arith, within);
      before = rest_more day past c.items.from c.in-Some.number c.in-Some.ensures.next c.items.invariant.before
          (ap (λ (x : Item). is_ready_item day past x.msg x.entry) (sym (c.item-item.ensures within)) ∙ c.is_ready_item.ensures.rests c.if-is_ready_item.false);
    }

pub returns-in-None : goal.returns-in-None
returns-in-None g c = nothing_found (g.D.Desk.day c.args.desk.now) (g.D.Desk.past c.args.desk.now) c.items.from c.in-None.ensures.next c.items.invariant.before
