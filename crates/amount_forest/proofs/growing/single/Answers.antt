use Rattle.std.proofs.Common.{◌+◌, refl, arith}
use Rattle.amount_forest.specs.Nodes.{list_of, place_of}
use Rattle.amount_forest.proofs.NodeLemmas.{place_small}
use Rattle.amount_forest.proofs.NewLemmas.{new_single}
use Rattle.amount_forest.proofs.growing.single.Goals as goal

pub overflow_add-place : goal.overflow_add-place
overflow_add-place c =
    let small = place_small c.args.entries.now c.args.links.now c.args.last c.requires.linked c.requires.last.within in
    let within = c.requires.last.within in
    omega arith

pub returns : goal.returns
returns c = new_single c.args.entries.now c.args.links.now (list_of c.args.entries.now c.args.last) c.args.last (place_of c.args.links.now c.args.last + 1) c.requires.linked c.requires.last refl
