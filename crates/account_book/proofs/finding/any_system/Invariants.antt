use Rattle.std.proofs.Common.{◌≡◌, take, None}
use Rattle.account_book.specs.Directory.{find_system}
use Rattle.account_book.proofs.finding.any_system.Given as goal

abbrev pub invariant-loop-i : goal.invariant-loop-i
invariant-loop-i l = find_system (take l.i l.systems) l.name ≡ None
