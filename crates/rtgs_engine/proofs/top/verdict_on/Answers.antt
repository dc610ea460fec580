use Rattle.rtgs_engine.proofs.top.verdict_on.Goals as goal

pub returns : goal.returns
returns c = rw c.in_ok-setting.ensures at c.replay.ensures.verdict
