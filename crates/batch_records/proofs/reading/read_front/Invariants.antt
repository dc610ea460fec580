use Rattle.std.proofs.Common.{Some}
use Rattle.batch_records.proofs.ReadingFacts.{HasRead}
use Rattle.batch_records.proofs.reading.read_front.Given as goal

abbrev pub invariant-loop-number : goal.invariant-loop-number
invariant-loop-number l = HasRead (λ s. Some s.now) l.part l.reader l.so_far l.number
