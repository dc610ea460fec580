use Rattle.std.proofs.Common.{◌≡◌, map, take}
use Rattle.as_client.specs.Openings.{opening_told}
use Rattle.as_client.proofs.party.openings.Given as goal

abbrev pub invariant-loop-account : goal.invariant-loop-account
invariant-loop-account l = l.balances.items ≡ map (opening_told l.name) (take l.account-index l.accounts)
