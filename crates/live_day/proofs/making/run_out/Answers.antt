use Rattle.live_day.proofs.FloorFacts.{lines_at_end}
use Rattle.live_day.proofs.making.run_out.Goals as goal

pub returns-clause-lines : goal.returns-clause-lines
returns-clause-lines g c = lines_at_end c.args.setting.now.day _ _ c.args.setting.now.sound c.requires.lines c.run_out.ensures.lines
