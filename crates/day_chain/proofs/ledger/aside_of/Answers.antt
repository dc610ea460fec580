use Rattle.settle_floor.proofs.OpeningFacts.{at_hand}
use Rattle.day_chain.proofs.ledger.aside_of.Goals as goal

pub balance-requires : goal.balance-requires
balance-requires c = at_hand c.args.settled.now.setting.day c.args.settled.now.till c.args.a c.requires.balanced.all c.requires.least c.requires.most
