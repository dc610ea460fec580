use Rattle.live_records.proofs.HearingFacts.{end_heard}
use Rattle.live_records.proofs.ear.Ear.has_end.Goals as goal

pub returns : goal.returns
returns c h day k = end_heard h c.args.self.now day k
