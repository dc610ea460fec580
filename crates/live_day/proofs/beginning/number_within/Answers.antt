use Rattle.live_day.proofs.HeaderFacts.{long_number}
use Rattle.live_day.proofs.beginning.number_within.Goals as goal

pub returns-then-text-gt9 : goal.returns-then-text-gt9
returns-then-text-gt9 c = long_number c.args.most c.args.text.now c.requires c.if-text-gt9.true
