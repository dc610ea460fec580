use Rattle.std.proofs.Common.{◌∙◌, sym}
use Rattle.ready_items.proofs.NormalFacts.{puts_it, puts_none}
use Rattle.ready_items.proofs.ready.put_normal.Goals as goal

pub returns-then-item-ne0-clause-puts : goal.returns-then-item-ne0-clause-puts
returns-then-item-ne0-clause-puts c = λ K stands low at have. puts_none c.args.setting.now.day K c.args.i c.args.normals.now low have c.args.item at (λ z. absurd (c.if-item-ne0.true z))

pub returns-then-not-is_normal-clause-puts : goal.returns-then-not-is_normal-clause-puts
returns-then-not-is_normal-clause-puts c = λ K stands low at have. puts_none c.args.setting.now.day K c.args.i c.args.normals.now low have c.args.item at (λ z. sym c.is_normal.ensures ∙ c.if-not-is_normal.true)

pub returns-clause-puts : goal.returns-clause-puts
returns-clause-puts c = λ K stands low at have. puts_it c.args.setting.now.day K c.args.i c.args.normals.now low have c.args.item at c.if-item-ne0.false (sym c.is_normal.ensures ∙ c.if-not-is_normal.false) c.payer.result c.pending_amount.result _
    c.payer.ensures (c.pending_amount.ensures K stands) c.put.ensures.put
