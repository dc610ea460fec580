use Rattle.std.proofs.Common.{refl, sym, ap, ◌∙◌}
use Rattle.commit_journal.specs.declared.line.Want.TheVariants as wants
use Rattle.machine.specs.Records.Messages.{sort_of}
use Rattle.machine.specs.Making.Lines.{cover_moves}
use Rattle.settlement_laws.proofs.Wants.Answering.{answered-with}
use Rattle.guarantee_fund.proofs.Reduced.{cover-is}
use Rattle.machine.proofs.SortFacts.{b_is}
use Rattle.guarantee_fund.proofs.covering.cover_b.Goals as goal

pub returns-in-Some : goal.returns-in-Some
returns-in-Some g c = (cover-is (g.D.Desk.day c.args.desk.now) (g.D.Desk.past c.args.desk.now) c.args.n ∙ sym c.in-Some.ensures, refl)

pub returns-in-None : goal.returns-in-None
returns-in-None g c =
    let day = g.D.Desk.day c.args.desk.now in
    let J = g.D.Desk.past c.args.desk.now in
    let n = c.args.n in
    let moves = ap (λ s. cover_moves s day J n) (b_is (sort_of day n) c.requires.batch) ∙ sym c.settle_with_fund.ensures.moves in
    (answered-with day J (wants.Cover n) _ _ (cover-is day J n ∙ sym c.in-None.ensures) (sym c.head.ensures) moves, c.settle_with_fund.ensures.room)
