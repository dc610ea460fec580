use Rattle.std.proofs.Common.{◌∙◌}
use Rattle.day_facts.proofs.PhaseFacts.{ended_facts}
use Rattle.day_facts.proofs.facts.DayFacts.cycle_ended.Goals as goal

pub returns : goal.returns
returns c = λ J s. c.has_ended.ensures ∙ ended_facts c.args.setting.now.day J c.args.self.now c.args.n s
