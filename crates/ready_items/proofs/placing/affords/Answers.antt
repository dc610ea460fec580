use Rattle.std.proofs.Common.{◌∙◌, ◌-◌, ap, arith}
use Rattle.std.specs.Prelude.{nat_le}
use Rattle.machine.specs.Records.Reserves.{must_leave}
use Rattle.ready_items.specs.Goes.{takes}
use Rattle.ready_items.proofs.PutFacts.{enough_beyond, too_little}
use Rattle.ready_items.proofs.placing.affords.Goals as goal

pub returns-then-money-left : goal.returns-then-money-left
returns-then-money-left c = too_little (takes c.args.setting.now.day c.args.item c.args.a) (must_leave c.args.setting.now.day c.args.item.msg c.args.a) c.args.money (omega (arith, c.if-money-left.true, c.must_leave-left.ensures.value))

pub returns : goal.returns
returns c =
    (λ i. nat_le (c.takes.ensures i) (c.from.ensures i))
    ∙ ap (λ left. nat_le (takes c.args.setting.now.day c.args.item c.args.a) (c.args.money - left)) c.must_leave-left.ensures.value
    ∙ enough_beyond (takes c.args.setting.now.day c.args.item c.args.a) (must_leave c.args.setting.now.day c.args.item.msg c.args.a) c.args.money (omega (arith, c.if-money-left.false, c.must_leave-left.ensures.value))
