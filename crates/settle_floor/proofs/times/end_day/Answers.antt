-- Without a reason the want has its line.
use Rattle.std.proofs.Common.{◌∙◌, refl, sym}
use Rattle.commit_journal.specs.declared.line.Want.TheVariants as wants
use Rattle.settlement_laws.proofs.Wants.Answering.{line-is}
use Rattle.settle_floor.proofs.times.end_day.Goals as goal

pub returns-in-None : goal.returns-in-None
returns-in-None g c = (line-is (g.D.Desk.day c.args.desk.now) (g.D.Desk.past c.args.desk.now) wants.End _ _ (sym c.why_not_ended.ensures ∙ c.in-None.is) c.head.ensures c.requires.empty, refl)
