use Rattle.payment_queue.proofs.HeadLemmas.{head_is}
use Rattle.payment_queue.proofs.IndexLemmas.{live_on}
use Rattle.payment_queue.proofs.rows.head_item.Goals as goal

pub item_at-requires : goal.item_at-requires
item_at-requires c = live_on c.args.rows.now _ _ _ c.head.ensures.toward.on

pub returns : goal.returns
returns c = rw c.item_at.ensures (head_is c.args.rows.now c.args.index.now c.requires.kept c.args.account c.args.priority c.head.result c.head.ensures)
