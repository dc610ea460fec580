use Rattle.day_facts.proofs.Longer.{stop_facts}
use Rattle.status_messages.proofs.laws.stop_changes_no_walk.Goals as goal

pub returns : goal.returns
returns c = λ day t J walk late legal stands. record {
  facts = stop_facts day t J walk.facts late legal stands.facts;
  banks = stands.banks;
  accounts = stands.accounts;
}
