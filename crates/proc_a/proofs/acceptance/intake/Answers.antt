use Rattle.machine.specs.Records.Messages.{sort_of}
use Rattle.machine.proofs.SortFacts.{a_is}
use Rattle.proc_a.proofs.acceptance.intake.Goals as goal

pub code_over_technical-requires-clause-sort : goal.code_over_technical-requires-clause-sort
code_over_technical-requires-clause-sort g c = a_is (sort_of (g.D.Desk.day c.args.desk.now) c.args.n) c.requires.batch
