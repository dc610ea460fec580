use Rattle.std.proofs.Common.{refl, sym, ap, ◌∙◌}
use Rattle.commit_journal.specs.declared.line.Kind.TheVariants as kinds
use Rattle.commit_journal.specs.declared.line.Want.TheVariants as wants
use Rattle.settlement_laws.proofs.Wants.Answering.{answered-with}
use Rattle.guarantee_fund.proofs.Reduced.{refuse-is}
use Rattle.guarantee_fund.proofs.refusing.refuse_due.Goals as goal

pub returns-in-Some : goal.returns-in-Some
returns-in-Some g c = (refuse-is (g.D.Desk.day c.args.desk.now) (g.D.Desk.past c.args.desk.now) c.args.n ∙ sym c.in-Some.ensures, refl)

pub returns-in-None : goal.returns-in-None
returns-in-None g c =
    let day = g.D.Desk.day c.args.desk.now in
    let J = g.D.Desk.past c.args.desk.now in
    let n = c.args.n in
    let code = ap (λ code. record { kind = kinds.Refuse; msg = n; entry = 0; code = code }) (sym c.code_of.ensures) in
    (answered-with day J (wants.Refuse n) _ _ (refuse-is day J n ∙ sym c.in-None.ensures) (code ∙ sym c.head.ensures) (sym c.push_reversal.ensures.moves), c.push_reversal.ensures.room)
