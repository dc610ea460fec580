use Rattle.std.proofs.Common.{◌≡◌, drop}
use Rattle.batch_records.specs.Words.{rises_from}
use Rattle.batch_records.proofs.words.rise.Given as goal

abbrev pub invariant-loop-c : goal.invariant-loop-c
invariant-loop-c l = rises_from l.before (drop l.c-index l.text) ≡ rises_from 64 l.text
