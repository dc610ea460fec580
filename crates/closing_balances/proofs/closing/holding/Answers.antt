use Rattle.std.proofs.Common.{length, is_some, arith}
use Rattle.settlement_laws.proofs.Base.Sums.{all-at}
use Rattle.closing_balances.proofs.closing.holding.Goals as goal

pub balance-requires : goal.balance-requires
balance-requires g c =
    let least = c.requires.least in
    let most = c.requires.most in
    all-at (λ b. is_some (g.T.Holdings.holdings c.args.till.now b)) 1 (length c.args.setting.now.day.accounts) c.args.a c.requires.balanced.all (omega (arith, least)) (omega (arith, most))

pub returns : goal.returns
returns g c = c.requires.balanced.kept c.args.a c.balance.result c.balance.ensures
