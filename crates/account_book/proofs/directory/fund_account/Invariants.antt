use Rattle.std.proofs.Common.{◌≡◌, take, None}
use Rattle.account_book.specs.Directory.{fund_account}
use Rattle.account_book.proofs.directory.fund_account.Given as goal

abbrev pub invariant-loop-i : goal.invariant-loop-i
invariant-loop-i l = fund_account (take l.i l.accounts) l.system ≡ None
