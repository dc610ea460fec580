use Rattle.std.proofs.Common.{Some, sym, ap, ◌∙◌}
use Rattle.std.specs.Option.{option_map_or}
use Rattle.machine.specs.declared.answers.Why.TheVariants as whys
use Rattle.guarantee_fund.proofs.Reduced.{no-batch}
use Rattle.guarantee_fund.proofs.answers.no_batch.Goals as goal

pub returns-in-Some : goal.returns-in-Some
returns-in-Some g c =
    ap (λ o. Some (option_map_or whys.Over o whys.NoSuch)) (sym c.in-Some.is ∙ c.ended.ensures)
    ∙ sym (no-batch (g.D.Desk.day c.args.desk.now) (g.D.Desk.past c.args.desk.now) c.args.n c.requires)

pub returns-in-None : goal.returns-in-None
returns-in-None g c =
    ap (λ o. Some (option_map_or whys.Over o whys.NoSuch)) (sym c.in-None.is ∙ c.ended.ensures)
    ∙ sym (no-batch (g.D.Desk.day c.args.desk.now) (g.D.Desk.past c.args.desk.now) c.args.n c.requires)
