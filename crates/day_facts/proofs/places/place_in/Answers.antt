use Rattle.std.proofs.Common.{◌∙◌, None}
use Rattle.day_facts.proofs.RowLemmas.{placed_in}
use Rattle.day_facts.proofs.places.place_in.Goals as goal

pub returns-in-Some : goal.returns-in-Some
returns-in-Some c = c.place_of.ensures ∙ placed_in c.args.ends.now c.args.items.now c.args.n c.args.k _ c.requires c.in-Some.ensures

pub returns-in-None : goal.returns-in-None
returns-in-None c = placed_in c.args.ends.now c.args.items.now c.args.n c.args.k None c.requires c.in-None.ensures
