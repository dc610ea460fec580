use Rattle.std.proofs.Common.{◌∙◌, sym, ap, subst}
use Rattle.machine.specs.declared.answers.Item.{Item}
use Rattle.machine.specs.Making.Lines.{item_want}
use Rattle.machine.specs.Orders.Order.{append}
use Rattle.due_items.specs.Kept.{KeepsDue}
use Rattle.settle_floor.specs.Floors.{OnFloor}
use Rattle.settle_floor.proofs.DueFacts.{step_is}
use Rattle.settle_floor.proofs.floor.Floor.visit.Goals as goal

pub returns-clause-lines : goal.returns-clause-lines
returns-clause-lines g c =
    let day = c.args.setting.now.day in
    let J = c.args.self.now.journal.history in
    let keeps = subst (λ (f : OnFloor). KeepsDue day f.journal.history f.index.due) (sym c.self.view_is) c.requires.at_work.opened.index.due in
    let is = c.item-item.ensures day keeps c.requires.within in
    c.append.ensures.lines ∙ ap (append day J) (c.want_at-want.ensures ∙ ap (λ (x : Item). item_want day J x.msg x.entry) is) ∙ step_is day J c.args.number

pub want_at-want-requires : goal.want_at-want-requires
want_at-want-requires g c = record { at_work = c.requires.at_work }

pub append-requires : goal.append-requires
append-requires g c = record { at_work = c.requires.at_work }

pub returns-clause-at_work : goal.returns-clause-at_work
returns-clause-at_work g c = c.append.ensures.at_work
