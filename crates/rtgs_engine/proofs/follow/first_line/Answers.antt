use Rattle.rtgs_engine.proofs.LineTexts.{cut-shorter, lines-cut, lines-uncut}
use Rattle.rtgs_engine.proofs.follow.first_line.Goals as goal

pub returns-in-Some-clause-lines : goal.returns-in-Some-clause-lines
returns-in-Some-clause-lines c = lines-cut c.args.text.now c.in-Some.line.now c.in-Some.after.now c.in-Some.ensures

pub returns-in-None-clause-lines : goal.returns-in-None-clause-lines
returns-in-None-clause-lines c = lines-uncut c.args.text.now c.requires c.in-None.ensures

pub returns-in-Some-clause-shorter : goal.returns-in-Some-clause-shorter
returns-in-Some-clause-shorter c = cut-shorter c.args.text.now c.in-Some.line.now c.in-Some.after.now c.in-Some.ensures
