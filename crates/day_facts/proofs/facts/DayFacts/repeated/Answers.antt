use Rattle.day_facts.proofs.Standing.{repeated_stands}
use Rattle.day_facts.proofs.facts.DayFacts.repeated.Goals as goal

pub returns : goal.returns
returns c = λ J s. repeated_stands c.args.setting.now.day J c.args.self.now c.args.n c.earlier.result s c.earlier.ensures
