use Rattle.std.proofs.Common.{◌∙◌, ◌≡◌, ◌+◌, ℕ, ap, length, subst, sym}
use Rattle.machine.specs.Records.Messages.{entries}
use Rattle.due_items.specs.Kept.{Due, HaveDue}
use Rattle.due_items.specs.Row.{HasRoomFor, spent}
use Rattle.due_items.proofs.ArrivalFacts.{have_arrived}
use Rattle.due_items.proofs.items.DueItems.take_up.Goals as goal

pub returns-clause-have : goal.returns-clause-have
returns-clause-have c = λ J k e last speaks enough have.
    let day = c.args.setting.now.day in
    let v : Due = record { index = c.self.inside.index; set = c.self.inside.flags.due; renewed = c.self.inside.flags.renewed; room = c.self.inside.flags.room } in
    let room : HasRoomFor day c.args.n v.index.row.room = subst (λ (x : Due). HasRoomFor day c.args.n x.index.row.room) (sym c.self.view_is) enough in
    let size : c.entry_count.result + 1 ≡ length (entries day c.args.n) + 1 = ap (λ (m : ℕ). m + 1) c.entry_count.ensures.count in
    have_arrived day J k c.args.n (c.entry_count.result + 1) v c.arrive.new.self c.grow.new.self e last speaks room size (c.arrive.ensures.index k e last room) c.grow.ensures (subst (HaveDue day k J) (sym c.self.view_is) have)

pub returns-clause-left : goal.returns-clause-left
returns-clause-left c = λ enough.
    let day = c.args.setting.now.day in
    let room : HasRoomFor day c.args.n c.self.inside.index.row.room = subst (λ (x : Due). HasRoomFor day c.args.n x.index.row.room) (sym c.self.view_is) enough in
    c.arrive.ensures.room room ∙ ap (λ (x : Due). spent day c.args.n x.index.row.room) c.self.view_is
