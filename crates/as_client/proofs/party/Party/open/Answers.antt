use Rattle.std.proofs.Common.{refl}
use Rattle.as_client.proofs.ViewOpening.{opens}
use Rattle.as_client.proofs.party.Party.open.Goals as goal

pub returns : goal.returns
returns c =
    opens c.args.day.now c.args.name.now _ _ _ _ c.accounts-accounts.result.now c.systems.result.now c.args.day.now.messages c.accounts-accounts.ensures c.systems.ensures refl
    c.copy.ensures c.in_ok-book.ensures c.in_ok-balances.ensures c.in_ok-words.ensures
