use Rattle.proc_b.proofs.OfB.{sort-is}
use Rattle.proc_b.proofs.acceptance.intake.Goals as goal

pub code_over_technical-requires-clause-sort : goal.code_over_technical-requires-clause-sort
code_over_technical-requires-clause-sort g c = sort-is (g.D.Desk.day c.args.desk.now) c.args.n c.requires.batch
