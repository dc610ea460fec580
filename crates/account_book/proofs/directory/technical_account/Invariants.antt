use Rattle.std.proofs.Common.{◌≡◌, take, None}
use Rattle.account_book.specs.Directory.{technical_account}
use Rattle.account_book.proofs.directory.technical_account.Given as goal

abbrev pub invariant-loop-i : goal.invariant-loop-i
invariant-loop-i l = technical_account (take l.i l.accounts) l.system l.procedure ≡ None
