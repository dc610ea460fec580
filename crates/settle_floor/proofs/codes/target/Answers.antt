use Rattle.std.proofs.Common.{◌∙◌, ap, sym}
use Rattle.settle_floor.proofs.Targets.{if_accepted, target_is}
use Rattle.settle_floor.proofs.codes.target.Goals as goal

pub returns-in-Some : goal.returns-in-Some
returns-in-Some g c = c.if_accepted.ensures ∙ ap (if_accepted (g.D.Desk.past c.args.desk.now)) (sym c.in-Some.is ∙ c.batch_named.ensures) ∙ target_is (g.D.Desk.day c.args.desk.now) (g.D.Desk.past c.args.desk.now) c.args.n

pub returns-in-None : goal.returns-in-None
returns-in-None g c = ap (if_accepted (g.D.Desk.past c.args.desk.now)) (sym c.in-None.is ∙ c.batch_named.ensures) ∙ target_is (g.D.Desk.day c.args.desk.now) (g.D.Desk.past c.args.desk.now) c.args.n
