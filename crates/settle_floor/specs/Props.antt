-- That nothing is ready, where something holds, has one proof at most, as a ghost field needs it.
use Rattle.std.proofs.Common.{Bool}
use Rattle.std.proofs.Props.{props}
use Rattle.batch_records.specs.DayRecord.{Day}
use Rattle.commit_journal.specs.Line.{History}
use Rattle.settle_floor.specs.Ready.{RestAll}

flags : IsSet Bool
flags = Prim.hlevel props

pub RestAll-prop : (A : Type 0) (day : Day) (J : History) → IsProp (A → RestAll day J)
RestAll-prop A day J a b = λ i x j low. flags _ _ (a x j low) (b x j low) i
