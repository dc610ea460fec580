use Rattle.std.proofs.Common.{[], Option, ap, sym}
use Rattle.machine.specs.declared.answers.Why.{Why}
use Rattle.outside_io.proofs.PutLemmas.{has_put_none, puts_all}
use Rattle.day_reasons.specs.Told.{reason_line}
use Rattle.day_reasons.proofs.PutFacts.{same_put}
use Rattle.day_reasons.proofs.telling.put_if_waiting.Goals as goal

pub returns-in-None : goal.returns-in-None
returns-in-None g c = same_put _ _ _ _ _ (ap (λ (o : Option Why). reason_line (g.D.Desk.day c.args.desk.now) (g.D.Desk.past c.args.desk.now) c.args.n c.args.k c.args.want o) (sym c.in-None.is)) (puts_all _ _ [] tt (has_put_none _))
