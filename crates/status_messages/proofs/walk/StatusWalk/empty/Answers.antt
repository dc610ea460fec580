use Rattle.std.proofs.Common.{◌+◌, arith, length}
use Rattle.status_messages.proofs.Entered.{made_empty, made_long}
use Rattle.status_messages.proofs.walk.StatusWalk.empty.Goals as goal

pub returns-clause-stands : goal.returns-clause-stands
returns-clause-stands c = λ day few_accounts few_systems. record {
  facts = c.in_ok-facts.ensures.empty day few_systems;
  banks = made_empty _ (c.args.accounts + 1) c.in_ok-banks.ensures;
  accounts = made_long _ (c.args.accounts + 1) (length day.accounts) c.in_ok-banks.ensures (omega (arith, few_accounts));
}
