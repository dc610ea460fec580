-- The wants of items.
use Rattle.commit_journal.specs.declared.line.Want.{Want}
use Rattle.commit_journal.specs.declared.line.Want.TheVariants as wants

-- every want but those to take a message, to scan an account, to move the clock and to end the day
abbrev pub IsItemWant : Want → Type 0
IsItemWant (wants.In n) = ⊥
IsItemWant wants.Time = ⊥
IsItemWant (wants.Sweep a) = ⊥
IsItemWant wants.End = ⊥
IsItemWant _ = Unit {0}
