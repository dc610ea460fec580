use Rattle.day_facts.proofs.ToldLines.{told_first}
use Rattle.day_facts.proofs.told.Told.new.Goals as goal

pub returns : goal.returns
returns c = told_first c.args.setting.now.day
