use Rattle.std.proofs.Common.{arith}
use Rattle.account_book.specs.Directory.{is_technical_of}
use Rattle.account_book.proofs.Searches.{found-here, found-none}
use Rattle.account_book.proofs.directory.technical_account.Goals as goal

pub returns-then-is_technical_of : goal.returns-then-is_technical_of
returns-then-is_technical_of c =
    found-here (is_technical_of c.args.system.now c.args.procedure) c.args.accounts.now c.loop-i.i c.index-accounts-i.result (omega arith) c.index-accounts-i.is c.loop-i.invariant (cc)

pub loop-i-preserved : goal.loop-i-preserved
loop-i-preserved c = found-none (is_technical_of c.args.system.now c.args.procedure) c.args.accounts.now c.loop-i.i c.index-accounts-i.result (omega arith) c.index-accounts-i.is c.loop-i.invariant (cc)
