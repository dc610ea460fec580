use Rattle.std.proofs.Common.{refl, sym, ◌∙◌}
use Rattle.commit_journal.specs.declared.line.Want.TheVariants as wants
use Rattle.settlement_laws.proofs.Wants.Answering.{answered-with}
use Rattle.guarantee_fund.proofs.Reduced.{ask-is}
use Rattle.guarantee_fund.proofs.asking.ask_due.Goals as goal

pub returns-in-Some : goal.returns-in-Some
returns-in-Some g c = ask-is (g.D.Desk.day c.args.desk.now) (g.D.Desk.past c.args.desk.now) c.args.n ∙ sym c.in-Some.ensures

pub returns-in-None : goal.returns-in-None
returns-in-None g c =
    let day = g.D.Desk.day c.args.desk.now in
    let past = g.D.Desk.past c.args.desk.now in
    answered-with day past (wants.Ask c.args.n) _ _ (ask-is day past c.args.n ∙ sym c.in-None.ensures) (sym c.head.ensures) refl
