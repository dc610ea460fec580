use Rattle.std.proofs.Common.{◌≡◌, take, None}
use Rattle.account_book.specs.Directory.{first_dca}
use Rattle.account_book.proofs.finding.any_dca.Given as goal

abbrev pub invariant-loop-i : goal.invariant-loop-i
invariant-loop-i l = first_dca (take l.i l.accounts) l.bank ≡ None
