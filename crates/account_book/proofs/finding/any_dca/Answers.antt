use Rattle.std.proofs.Common.{arith}
use Rattle.account_book.specs.Directory.{is_dca_of}
use Rattle.account_book.proofs.Searches.{found-here, found-none}
use Rattle.account_book.proofs.finding.any_dca.Goals as goal

pub returns-then-is_dca_of : goal.returns-then-is_dca_of
returns-then-is_dca_of c = found-here (is_dca_of c.args.bank.now) c.args.accounts.now c.loop-i.i c.index-accounts-i.result (omega arith) c.index-accounts-i.is c.loop-i.invariant (cc)

pub loop-i-preserved : goal.loop-i-preserved
loop-i-preserved c = found-none (is_dca_of c.args.bank.now) c.args.accounts.now c.loop-i.i c.index-accounts-i.result (omega arith) c.index-accounts-i.is c.loop-i.invariant (cc)
