use Rattle.std.proofs.Common.{◌∙◌}
use Rattle.day_facts.proofs.PhaseFacts.{phase_stands}
use Rattle.day_facts.proofs.facts.DayFacts.phase.Goals as goal

pub returns : goal.returns
returns c = λ J s. c.phase_now.ensures ∙ phase_stands c.args.setting.now.day J c.args.self.now c.args.n s
