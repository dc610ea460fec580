use Rattle.std.proofs.Common.{length}
use Rattle.outside_io.proofs.PutLemmas.{puts_first, puts_then}
use Rattle.machine.specs.Records.Messages.{entries}
use Rattle.day_reasons.specs.Told.{item_text}
use Rattle.day_reasons.proofs.PutFacts.{first_and_rest, same_put}
use Rattle.day_reasons.proofs.telling.put_items.Goals as goal

pub returns-in_err-put_item-clause-put : goal.returns-in_err-put_item-clause-put
returns-in_err-put_item-clause-put g c =
    same_put _ _ _ _ _ (first_and_rest (item_text (g.D.Desk.day c.args.desk.now) (g.D.Desk.past c.args.desk.now) c.args.n) (length (entries (g.D.Desk.day c.args.desk.now) c.args.n)))
    (puts_first _ _ _ _ _ _ c.from_residual.ensures.0 c.in_err-put_item.ensures.put)

pub returns-clause-put : goal.returns-clause-put
returns-clause-put g c =
    same_put _ _ _ _ _ (first_and_rest (item_text (g.D.Desk.day c.args.desk.now) (g.D.Desk.past c.args.desk.now) c.args.n) (length (entries (g.D.Desk.day c.args.desk.now) c.args.n)))
    (puts_then _ _ _ _ _ _ _ c.in_ok-put_item.ensures.put c.put_entries.ensures.put)
