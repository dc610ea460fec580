use Rattle.std.proofs.Common.{◌∙◌, [], ap, sym}
use Rattle.outside_io.proofs.PutLemmas.{has_put_none, puts_all}
use Rattle.day_reasons.specs.Told.{item_text, want_line}
use Rattle.day_reasons.proofs.Settling.{waiting_settles}
use Rattle.day_reasons.proofs.PutFacts.{same_put}
use Rattle.day_reasons.proofs.telling.put_item.Goals as goal

pub put_want-requires-clause-settles : goal.put_want-requires-clause-settles
put_want-requires-clause-settles g c = waiting_settles (g.D.Desk.day c.args.desk.now) c.args.n _ (g.D.Desk.past c.args.desk.now) c.args.k (sym c.waiting_want.ensures ∙ c.in-Some.is)

pub returns-in-Some-clause-put : goal.returns-in-Some-clause-put
unfolding item_text
returns-in-Some-clause-put g c = same_put _ _ _ _ _ (ap (want_line (g.D.Desk.day c.args.desk.now) (g.D.Desk.past c.args.desk.now) c.args.n c.args.k) (sym c.in-Some.is ∙ c.waiting_want.ensures)) c.put_want.ensures.put

pub returns-in-None-clause-put : goal.returns-in-None-clause-put
unfolding item_text
returns-in-None-clause-put g c = same_put _ _ _ _ _ (ap (want_line (g.D.Desk.day c.args.desk.now) (g.D.Desk.past c.args.desk.now) c.args.n c.args.k) (sym c.in-None.is ∙ c.waiting_want.ensures)) (puts_all _ _ [] tt (has_put_none _))
