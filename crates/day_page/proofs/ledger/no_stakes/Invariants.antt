use Rattle.std.proofs.Common.{◌≡◌, replicate}
use Rattle.day_page.proofs.ledger.no_stakes.Given as goal

abbrev pub invariant-loop-i : goal.invariant-loop-i
invariant-loop-i l = record { none : l.stakes.items ≡ replicate l._i 0 }
