use Rattle.settle_floor.proofs.FirstReady.{rest_found}
use Rattle.settle_floor.proofs.ready.first_message.Goals as goal

pub returns-then-is_at_rest : goal.returns-then-is_at_rest
returns-then-is_at_rest g c = rest_found (g.D.Desk.day c.args.desk.now) (g.D.Desk.past c.args.desk.now) (c.is_at_rest.ensures.rest c.if-is_at_rest.true)
