use Rattle.std.proofs.Common.{sym, ◌∙◌}
use Rattle.amount_forest.proofs.SearchLemmas.{turn_here, turn_past, turn_over}
use Rattle.amount_forest.proofs.search.turn_at.Goals as goal

pub returns-then-fits : goal.returns-then-fits
returns-then-fits c =
    turn_here c.args.entries.now c.args.links.now c.args.leasts.now c.args.most c.args.at c.args.from c.requires.pool c.requires.within c.if-link-from.true (sym c.fits.ensures ∙ c.if-fits.true)

pub returns-then-link-from : goal.returns-then-link-from
returns-then-link-from c =
    turn_past c.args.entries.now c.args.links.now c.args.leasts.now c.args.most c.args.at c.args.from c.args.turn c.requires.pool c.requires.within c.if-link-from.true (sym c.fits.ensures ∙ c.if-fits.false) c.requires.turn

pub returns : goal.returns
returns c =
    turn_over c.args.entries.now c.args.links.now c.args.leasts.now c.args.most c.args.at c.args.from c.args.turn c.requires.pool c.requires.within c.if-link-from.false (sym c.fits-2.ensures ∙ c.if-fits-2.false) c.requires.turn
