-- There is no such item, as the message is no batch of B.
use Rattle.std.proofs.Common.{refl}
use Rattle.machine.specs.Records.Messages.{is_b}
use Rattle.settle_floor.proofs.JudgingFacts.{fails, no_all}
use Rattle.settle_floor.proofs.judging.judge_all.Goals as goal

pub returns : goal.returns
returns g c = (
  no_all (g.D.Desk.day c.args.desk.now) (g.D.Desk.past c.args.desk.now) c.args.n c.no_such.result
      (fails is_b c.setting.result.now.day (g.D.Desk.day c.args.desk.now) c.args.n c.is_b.result c.is_b.ensures c.if-is_b.false c.setting.ensures) c.no_such.ensures,
  refl,
)
