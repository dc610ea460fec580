-- Of item 0 the message is asked, of an entry the entry; either tells what is said of both.
use Rattle.std.proofs.Common.{◌∙◌, sym}
use Rattle.settle_floor.proofs.FirstReady.{an_entry, entry_ready, item_rests, message_ready}
use Rattle.settle_floor.proofs.ready.is_ready_item.Goals as goal

pub returns-then-item-eq0-clause-rests : goal.returns-then-item-eq0-clause-rests
returns-then-item-eq0-clause-rests g c = λ h. item_rests (g.D.Desk.day c.args.desk.now) (g.D.Desk.past c.args.desk.now) c.args.item.msg c.args.item.entry c.requires.item (sym c.is_ready_message.ensures ∙ h)

pub returns-clause-ready : goal.returns-clause-ready
returns-clause-ready g c = λ h.
    let day = g.D.Desk.day c.args.desk.now in
    let past = g.D.Desk.past c.args.desk.now in
    message_ready day past c.args.item.msg c.args.item.entry c.requires.item
    (entry_ready day past c.args.item.msg c.args.item.entry (an_entry c.args.item.entry c.if-item-eq0.false) ∙ sym c.is_ready_entry.ensures ∙ h)

pub returns-clause-rests : goal.returns-clause-rests
returns-clause-rests g c = λ h.
    entry_ready (g.D.Desk.day c.args.desk.now) (g.D.Desk.past c.args.desk.now) c.args.item.msg c.args.item.entry (an_entry c.args.item.entry c.if-item-eq0.false)
    ∙ sym c.is_ready_entry.ensures ∙ h
