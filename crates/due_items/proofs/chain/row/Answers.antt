use Rattle.std.proofs.Common.{◌∙◌, arith, sym}
use Rattle.due_items.proofs.PageFacts.{rows-at, rows-past}
use Rattle.due_items.proofs.chain.row.Goals as goal

pub returns-then-key-seconds : goal.returns-then-key-seconds
returns-then-key-seconds c = sym (rows-past c.args.top.now c.args.pages.now c.args.key (let high = c.if-key-seconds.true in let all = c.seconds.ensures in omega (arith, high, all)))

pub returns : goal.returns
returns c = c.row_at.ensures ∙ sym (rows-at c.args.top.now c.args.pages.now c.args.key (let low = c.if-key-seconds.false in let all = c.seconds.ensures in omega (arith, low, all)))
