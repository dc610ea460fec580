-- That a set of times is kept has one proof at most, as a ghost field needs it.
use Rattle.std.proofs.Common.{ℕ, Bool, List}
use Rattle.std.proofs.Props.{props}
use Rattle.batch_records.specs.DayRecord.{Day}
use Rattle.commit_journal.specs.Line.{History}
use Rattle.clock_stops.specs.Kept.{KeepsStops}

numbers : IsSet ℕ
numbers = Prim.hlevel props

flags : IsSet Bool
flags = Prim.hlevel props

pub KeepsStops-prop : (day : Day) (J : History) (times : List Bool) → IsProp (KeepsStops day J times)
KeepsStops-prop day J times a b = λ i. record {
  size = numbers _ _ a.size b.size i;
  exact = λ t. flags _ _ (a.exact t) (b.exact t) i;
}
