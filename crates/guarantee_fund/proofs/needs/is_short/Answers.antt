use Rattle.std.proofs.Common.{◌≡◌, ◌∙◌, sym, ap}
use Rattle.std.specs.Prelude.{nat_lt}
use Rattle.std.proofs.lemmas.Bool.{ne_eqb}
use Rattle.machine.specs.Making.Lines.{gross}
use Rattle.machine.specs.Telling.Balances.{balance}
use Rattle.guarantee_fund.proofs.Held.{nothing_at_zero}
use Rattle.guarantee_fund.proofs.needs.is_short.Goals as goal

pub returns-then-a-eq0 : goal.returns-then-a-eq0
returns-then-a-eq0 g c =
    let day = g.D.Desk.day c.args.desk.now in
    let J = g.D.Desk.past c.args.desk.now in
    let none : 0 ≡ balance day J c.args.a = nothing_at_zero day J (g.D.Desk.sound c.args.desk.now) (g.D.Desk.legal c.args.desk.now) ∙ ap (balance day J) (sym c.if-a-eq0.true) in
    let all = c.gross.ensures ∙ ap (λ d. gross d c.args.n c.args.a) c.setting.ensures in
    λ i. nat_lt (none i) (all i)

pub is_short_debtor-requires : goal.is_short_debtor-requires
is_short_debtor-requires g c = c.requires (ne_eqb c.args.a 0 c.if-a-eq0.false)
