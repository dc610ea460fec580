use Rattle.std.proofs.Common.{sym, arith, ◌≤◌, length}
use Rattle.as_client.proofs.KeptFacts.{holds_now}
use Rattle.as_client.proofs.party.Party.hold.Goals as goal

pub returns-in-Some : goal.returns-in-Some
returns-in-Some c =
    let within = c.in-Some.ensures.within in
    let most : c.in-Some.a ≤ length c.self.inside.balances.items = omega arith in
    rw (← c.self.view_is) (holds_now _ c.args.account.now c.in-Some.a c.args.balance (sym c.in-Some.ensures.number) within.0 most)
