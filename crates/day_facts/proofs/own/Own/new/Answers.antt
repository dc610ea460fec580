use Rattle.day_facts.proofs.OwnLines.{own_first}
use Rattle.day_facts.proofs.own.Own.new.Goals as goal

pub returns : goal.returns
returns c = own_first
