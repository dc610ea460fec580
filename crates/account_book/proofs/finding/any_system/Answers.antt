use Rattle.std.proofs.Common.{arith}
use Rattle.cash_amounts.specs.Tests.{same_name}
use Rattle.account_book.proofs.Searches.{found-here, found-none}
use Rattle.account_book.proofs.finding.any_system.Goals as goal

pub returns-then-is_system : goal.returns-then-is_system
returns-then-is_system c = found-here (λ r. same_name r.name c.args.name.now) c.args.systems.now c.loop-i.i c.index-systems-i.result (omega arith) c.index-systems-i.is c.loop-i.invariant (cc)

pub loop-i-preserved : goal.loop-i-preserved
loop-i-preserved c = found-none (λ r. same_name r.name c.args.name.now) c.args.systems.now c.loop-i.i c.index-systems-i.result (omega arith) c.index-systems-i.is c.loop-i.invariant (cc)
