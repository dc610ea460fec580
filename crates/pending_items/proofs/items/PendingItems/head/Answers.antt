use Rattle.std.proofs.Common.{subst, sym}
use Rattle.pending_items.specs.Items.{KeepsRows}
use Rattle.pending_items.specs.Kept.{KeptItems}
use Rattle.pending_items.proofs.items.PendingItems.head.Goals as goal

pub returns : goal.returns
returns c = λ J k. c.head.ensures J (subst (λ (v : KeptItems). KeepsRows c.args.setting.now.day J v.rows) (sym c.self.view_is) k.rows)
