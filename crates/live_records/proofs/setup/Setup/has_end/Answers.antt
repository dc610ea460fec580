use Rattle.live_records.proofs.SetupFacts.{end_of_setup}
use Rattle.live_records.proofs.setup.Setup.has_end.Goals as goal

pub returns : goal.returns
returns c h k = end_of_setup h c.args.self.now.so_far k
