-- What is ready is what the phase leaves.
use Rattle.std.proofs.Common.{◌∙◌, ap, sym}
use Rattle.settle_floor.specs.Ready.{ready_in}
use Rattle.settle_floor.proofs.ReadyFacts.{ready-is}
use Rattle.settle_floor.proofs.ready.ready_of.Goals as goal

pub returns : goal.returns
returns g c =
    c.ready_in_phase.ensures ∙ ap (ready_in (g.D.Desk.day c.args.desk.now) (g.D.Desk.past c.args.desk.now) c.args.n) c.phase.ensures
    ∙ sym (ready-is (g.D.Desk.day c.args.desk.now) (g.D.Desk.past c.args.desk.now) c.args.n)
