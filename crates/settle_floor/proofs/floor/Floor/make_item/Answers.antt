use Rattle.std.proofs.Common.{◌∙◌, sym, ap, subst}
use Rattle.commit_journal.specs.declared.line.Want.{Want}
use Rattle.machine.specs.declared.answers.Item.{Item}
use Rattle.machine.specs.Making.Lines.{item_want}
use Rattle.due_items.specs.Kept.{KeepsDue}
use Rattle.settle_floor.specs.Floors.{OnFloor}
use Rattle.settle_floor.specs.NextLines.{MakesWant}
use Rattle.settle_floor.proofs.floor.Floor.make_item.Goals as goal

pub returns-clause-made : goal.returns-clause-made
returns-clause-made g c =
    let day = c.args.setting.now.day in
    let J = c.args.self.now.journal.history in
    let keeps = subst (λ (f : OnFloor). KeepsDue day f.journal.history f.index.due) (sym c.self.view_is) c.requires.at_work.opened.index.due in
    let is = c.item-item.ensures day keeps c.requires.within in
    subst (λ (w : Want). MakesWant day J c.make.new.self.journal.history w c.make.result) (c.want_at-want.ensures ∙ ap (λ (x : Item). item_want day J x.msg x.entry) is) c.make.ensures.made
