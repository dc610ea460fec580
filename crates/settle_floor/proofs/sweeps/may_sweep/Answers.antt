-- A sub-account's balance is at hand.
use Rattle.std.proofs.Common.{◌≡◌, true, rules}
use Rattle.machine.specs.Records.Setup.{is_sub_account}
use Rattle.settle_floor.proofs.SweepFacts.{sub_held}
use Rattle.settle_floor.proofs.sweeps.may_sweep.Goals as goal

pub balance-requires : goal.balance-requires
balance-requires g c =
    let sub : is_sub_account (g.D.Desk.day c.args.desk.now) c.args.a ≡ true = search rules in
    sub_held (g.D.Desk.held c.args.desk.now) (g.D.Desk.day c.args.desk.now) c.args.a sub c.requires
