use Rattle.std.proofs.Common.{sym, ◌∙◌}
use Rattle.live_day.proofs.PlaceFacts.{stands_beyond, stands_short}
use Rattle.live_day.proofs.comparing.Comparing.is_beyond.Goals as goal

pub returns-then-self : goal.returns-then-self
returns-then-self g c = stands_short _ _ (sym c.args.self.now.differs_is ∙ c.if-self.true)

pub returns : goal.returns
returns g c = stands_beyond _ _ _ c.args.self.now.at_is (sym c.args.self.now.differs_is ∙ c.if-self.false)
