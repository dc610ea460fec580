use Rattle.std.proofs.Common.{length}
use Rattle.day_facts.specs.Arrivals.{Arrived}
use Rattle.day_facts.proofs.facts.DayFacts.whole.Given as goal

abbrev pub invariant-loop-before : goal.invariant-loop-before
invariant-loop-before l = Arrived l.setting.day l.before (length l.setting.day.messages) l.items l.facts
