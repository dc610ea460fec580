use Rattle.std.proofs.Common.{◌∙◌}
use Rattle.live_day.proofs.TakeFacts.{settled_is}
use Rattle.live_day.proofs.listening.LiveDayListener.is_settled.Goals as goal

pub returns : goal.returns
returns g c = λ input h. c.is_some.ensures ∙ settled_is g.D.Hearer.has_heard c.args.self.now.ending c.args.self.now.reader input h.stands
