use Rattle.day_facts.proofs.FirstFlags.{first_flag, no_flag}
use Rattle.day_facts.proofs.flags.first_from.Goals as goal

pub returns-in-Some : goal.returns-in-Some
returns-in-Some c = first_flag c.args.ends.now c.args.items.now c.args.n c.args.start _ _ _ c.requires.rises c.requires.start c.in-Some.ensures.next c.saturating_sub.ensures c.in_row.ensures

pub returns-in-None : goal.returns-in-None
returns-in-None c = no_flag c.args.ends.now c.args.items.now c.args.n c.args.start c.requires.rises c.requires.start c.in-None.ensures.next
