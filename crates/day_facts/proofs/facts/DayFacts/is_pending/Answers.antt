use Rattle.std.proofs.Common.{◌∙◌}
use Rattle.day_facts.proofs.PhaseFacts.{pending_stands}
use Rattle.day_facts.proofs.facts.DayFacts.is_pending.Goals as goal

pub returns : goal.returns
returns c = λ J s. c.is_pending_now.ensures ∙ pending_stands c.args.setting.now.day J c.args.self.now c.args.item s
