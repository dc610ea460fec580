use Rattle.std.proofs.Common.{◌≡◌, ◌-◌, ℕ, List, length}
use Rattle.std.specs.Prelude.{Some}
use Rattle.frame_log.specs.Finding.{IsFound, IsSmall}
use Rattle.frame_log.proofs.reading.go_on.Given as goal

abbrev pub invariant-loop-so_far : goal.invariant-loop-so_far
invariant-loop-so_far g l = record {
  small : IsSmall l.so_far l.limit;
  room : length l.room ≡ 16385;
  kept : g.R.Reader.faults l.reader ≡ g.R.Reader.faults l.initial.reader;
  looks : (before : g.row.R.Denot) → g.R.Reader.looks before l.initial.reader → g.R.Reader.looks before l.reader;
  found : (bytes left : List ℕ) → g.R.Reader.left l.initial.reader ≡ Some left → IsFound bytes l.initial.so_far left → (rest : List ℕ) × (g.R.Reader.left l.reader ≡ Some rest) × IsFound bytes l.so_far rest;
}

abbrev pub decreases-loop-so_far : goal.decreases-loop-so_far
decreases-loop-so_far g l = l.limit - length l.so_far.kept.text.items
