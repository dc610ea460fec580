use Rattle.std.proofs.Common.{◌∙◌, None}
use Rattle.day_facts.proofs.RowLemmas.{flagged_in}
use Rattle.day_facts.proofs.flags.flag_in.Goals as goal

pub returns-in-Some : goal.returns-in-Some
returns-in-Some c = c.flag_of.ensures ∙ flagged_in c.args.ends.now c.args.items.now c.args.n c.args.k _ c.requires.rises c.in-Some.ensures

pub returns-in-None : goal.returns-in-None
returns-in-None c = flagged_in c.args.ends.now c.args.items.now c.args.n c.args.k None c.requires.rises c.in-None.ensures
