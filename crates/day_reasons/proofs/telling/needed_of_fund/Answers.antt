use Rattle.commit_journal.specs.declared.line.Want.TheVariants as wants
use Rattle.machine.specs.Records.Messages.{is_a, is_b}
use Rattle.settle_floor.proofs.HeldFacts.{all_held}
use Rattle.day_reasons.proofs.Settling.{tested}
use Rattle.day_reasons.proofs.PutFacts.{no_need}
use Rattle.day_reasons.proofs.telling.needed_of_fund.Goals as goal

pub shortfall_b-requires-clause-held : goal.shortfall_b-requires-clause-held
shortfall_b-requires-clause-held g c = all_held (g.D.Desk.held c.args.desk.now) (g.D.Desk.day c.args.desk.now) c.requires.all (wants.Expire c.args.n)

pub returns : goal.returns
returns g c =
    let day = g.D.Desk.day c.args.desk.now in
    no_need day (g.D.Desk.past c.args.desk.now) c.args.n
    (tested is_a _ day c.args.n _ _ c.is_a.ensures c.if-is_a.false c.setting-setting.ensures)
    (tested is_b _ day c.args.n _ _ c.is_b.ensures c.if-is_b.false c.setting-setting.ensures)
