use Rattle.kept_port.proofs.KeeperFacts.{passes_all, real_skipped}
use Rattle.kept_port.proofs.keeper.Keeper.write.Goals as goal

pub returns-then-self-gt0-clause-passed : goal.returns-then-self-gt0-clause-passed
returns-then-self-gt0-clause-passed g c = passes_all _ _

pub returns-then-self-gt0-clause-real : goal.returns-then-self-gt0-clause-real
returns-then-self-gt0-clause-real g c = real_skipped _ _ _ _ _ c.min-count.ensures
