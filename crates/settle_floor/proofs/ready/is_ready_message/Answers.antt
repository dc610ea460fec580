-- A message is ready where something of it is.
use Rattle.std.proofs.Common.{ap}
use Rattle.std.specs.Prelude.{is_some}
use Rattle.settle_floor.proofs.ReadyFacts.{ready-message}
use Rattle.settle_floor.proofs.ready.is_ready_message.Goals as goal

pub returns : goal.returns
returns g c =
    let found = ap is_some c.ready_of.ensures in
    let ready = ready-message (g.D.Desk.day c.args.desk.now) (g.D.Desk.past c.args.desk.now) c.args.n in
    cc
