use Rattle.std.proofs.Common.{◌≡◌, take, None}
use Rattle.account_book.specs.Directory.{find_account}
use Rattle.account_book.proofs.finding.any_account.Given as goal

abbrev pub invariant-loop-i : goal.invariant-loop-i
invariant-loop-i l = find_account (take l.i l.accounts) l.name ≡ None
