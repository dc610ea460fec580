use Rattle.frame_log.proofs.StandingFacts.{finds_all}
use Rattle.frame_log.proofs.gate_log.GateLog.over.Goals as goal

pub invariant_of-result-clause-finds : goal.invariant_of-result-clause-finds
invariant_of-result-clause-finds g c = finds_all g.D.Disk.seen g.D.Disk.image c.args.end c.args.digest c.args.disk c.requires
