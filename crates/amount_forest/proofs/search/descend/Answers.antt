use Rattle.std.proofs.Common.{◌≡◌, ℕ, true, false, sym, ◌∙◌, ap, subst}
use Rattle.least_tree.specs.Amounts.{amount_at, fits}
use Rattle.amount_forest.specs.Nodes.{list_of, start_of, second_of}
use Rattle.amount_forest.specs.Searches.{IsUnder}
use Rattle.amount_forest.proofs.SearchLemmas.{down_first, down_second, neither, alone}
use Rattle.amount_forest.proofs.search.descend.Goals as goal

pub loop-at-preserved-then-fits : goal.loop-at-preserved-then-fits
loop-at-preserved-then-fits c =
    let same : fits c.args.most (amount_at c.args.leasts.now (second_of c.args.links.now c.loop-at.at)) ≡ true =
    ap (λ (n : ℕ). fits c.args.most (amount_at c.args.leasts.now n)) (sym c.second-second.ensures) ∙ (sym c.fits.ensures ∙ c.if-fits.true) in
    subst (λ (n : ℕ). IsUnder c.args.entries.now c.args.links.now c.args.leasts.now (list_of c.args.entries.now c.args.node) c.args.most (start_of c.args.links.now c.args.node) n) (sym c.second-second.ensures)
    (down_second c.args.entries.now c.args.links.now c.args.leasts.now (list_of c.args.entries.now c.args.node) c.args.most (start_of c.args.links.now c.args.node) c.loop-at.at c.requires.pool c.loop-at.invariant c.loop-at-test.true same)

pub loop-at-preserved : goal.loop-at-preserved
loop-at-preserved c =
    let fails : fits c.args.most (amount_at c.args.leasts.now (second_of c.args.links.now c.loop-at.at)) ≡ false =
    ap (λ (n : ℕ). fits c.args.most (amount_at c.args.leasts.now n)) (sym c.second-second.ensures) ∙ (sym c.fits.ensures ∙ c.if-fits.false) in
    down_first c.args.entries.now c.args.links.now c.args.leasts.now (list_of c.args.entries.now c.args.node) c.args.most (start_of c.args.links.now c.args.node) c.loop-at.at c.requires.pool c.loop-at.invariant c.loop-at-test.true fails (sym c.fits-else-fits.ensures ∙ c.if-fits-2.true)

pub returns-else-fits-2 : goal.returns-else-fits-2
returns-else-fits-2 c =
    let fails : fits c.args.most (amount_at c.args.leasts.now (second_of c.args.links.now c.loop-at.at)) ≡ false =
    ap (λ (n : ℕ). fits c.args.most (amount_at c.args.leasts.now n)) (sym c.second-second.ensures) ∙ (sym c.fits.ensures ∙ c.if-fits.false) in
    neither c.args.entries.now c.args.links.now c.args.leasts.now (list_of c.args.entries.now c.args.node) c.args.most (start_of c.args.links.now c.args.node) c.loop-at.at c.requires.pool c.loop-at.invariant c.loop-at-test.true fails (sym c.fits-else-fits.ensures ∙ c.if-fits-2.false)

pub returns : goal.returns
returns c = alone c.args.entries.now c.args.links.now c.args.leasts.now (list_of c.args.entries.now c.args.node) c.args.most (start_of c.args.links.now c.args.node) c.loop-at.at c.requires.pool c.loop-at.invariant c.loop-at-test.false
