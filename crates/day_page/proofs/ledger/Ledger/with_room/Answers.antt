use Rattle.std.proofs.Common.{◌∙◌, ap, arith, length, refl}
use Rattle.std.proofs.lemmas.List.{length-replicate}
use Rattle.day_page.proofs.StakeFacts.{none_waits}
use Rattle.day_page.proofs.ledger.Ledger.with_room.Goals as goal

pub returns-clause-tallied : goal.returns-clause-tallied
returns-clause-tallied c = none_waits c.args.setting.now.day c.args.count _ (omega arith) c.in_ok-stakes.ensures refl refl refl

pub returns-clause-size : goal.returns-clause-size
returns-clause-size c = ap length c.in_ok-stakes.ensures ∙ length-replicate c.args.count 0
