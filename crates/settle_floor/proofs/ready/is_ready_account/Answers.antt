-- The accounts of a want are at hand, where all are.
use Rattle.commit_journal.specs.declared.line.Want.TheVariants as wants
use Rattle.settle_floor.proofs.HeldFacts.{all_held}
use Rattle.settle_floor.proofs.ready.is_ready_account.Goals as goal

pub may_sweep-requires : goal.may_sweep-requires
may_sweep-requires g c = all_held (g.D.Desk.held c.args.desk.now) (g.D.Desk.day c.args.desk.now) c.requires.all (wants.Sweep c.args.a)
