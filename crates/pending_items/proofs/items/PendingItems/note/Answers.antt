use Rattle.std.proofs.Common.{ap, ◌∙◌, subst}
use Rattle.pending_items.specs.Cycles.{with_batch}
use Rattle.pending_items.specs.Kept.{IsRenewed, KeptItems}
use Rattle.pending_items.proofs.NoteFacts.{note_keeps, note_room}
use Rattle.pending_items.proofs.items.PendingItems.note.Goals as goal

pub returns-clause-kept : goal.returns-clause-kept
returns-clause-kept c = λ J l e legal s k.
    let day = c.args.setting.now.day in
    note_keeps day c.args.setting.now.sound J l c.args.head e legal c.args.facts.now s c.args.self.now c.pass.new.self k
    (subst (λ (v : KeptItems). IsRenewed day c.args.facts.now c.args.head v c.pass.new.self)
    (λ i. record { rows = (c.self.view_is i).rows; ends = (c.self.view_is i).ends; batches = (c.note.ensures ∙ ap (λ (v : KeptItems). with_batch day c.args.head v.batches) c.self.view_is) i; room = (c.self.view_is i).room }) c.pass.ensures)

pub returns-clause-room : goal.returns-clause-room
returns-clause-room c = λ J l e legal s k.
    let day = c.args.setting.now.day in
    note_room day c.args.setting.now.sound J l c.args.head e legal c.args.facts.now s c.args.self.now c.pass.new.self k
    (subst (λ (v : KeptItems). IsRenewed day c.args.facts.now c.args.head v c.pass.new.self)
    (λ i. record { rows = (c.self.view_is i).rows; ends = (c.self.view_is i).ends; batches = (c.note.ensures ∙ ap (λ (v : KeptItems). with_batch day c.args.head v.batches) c.self.view_is) i; room = (c.self.view_is i).room }) c.pass.ensures)
