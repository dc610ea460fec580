use Rattle.std.proofs.Common.{◌∙◌}
use Rattle.settle_floor.proofs.FirstReady.{none_swept}
use Rattle.settle_floor.proofs.ready.first_account.Goals as goal

pub returns-then-clock-ne-MIDNIGHT : goal.returns-then-clock-ne-MIDNIGHT
returns-then-clock-ne-MIDNIGHT g c = none_swept (g.D.Desk.day c.args.desk.now) (g.D.Desk.past c.args.desk.now) (λ e. c.if-clock-ne-MIDNIGHT.true (c.clock.ensures ∙ e))
