use Rattle.std.proofs.Common.{◌+◌, arith, refl}
use Rattle.amount_forest.specs.Nodes.{place_of}
use Rattle.amount_forest.proofs.NodeLemmas.{place_small}
use Rattle.amount_forest.proofs.PlaceLemmas.{past_place}
use Rattle.amount_forest.proofs.search.place.Goals as goal

pub overflow_add-result : goal.overflow_add-result
overflow_add-result c =
    let within = c.requires.last.within in
    let low = place_small c.args.entries.now c.args.links.now c.args.last c.requires.linked within in
    let small = c.requires.small in
    omega arith

pub returns-then-entries-last : goal.returns-then-entries-last
returns-then-entries-last c =
    past_place c.args.entries.now c.args.links.now c.args.last c.args.number c.requires.linked c.requires.last.within c.requires.last c.if-entries-last.true
    (place_of c.args.links.now c.args.last + 1) refl
