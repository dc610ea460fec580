use Rattle.std.proofs.Common.{◌≡◌, Bool, IsTrue, get_or, ap, ◌∙◌, arith}
use Rattle.std.proofs.lemmas.Bool.{both_ways}
use Rattle.std.proofs.lemmas.List.{get_or_default}
use Rattle.first_of_key.specs.declared.node.Node.{Node}
use Rattle.first_of_key.specs.declared.node.TheConstants.{NONE}
use Rattle.first_of_key.specs.First.{no_key}
use Rattle.first_of_key.specs.Paths.{Tree, tree, leaf, link, node_at, head_at}
use Rattle.first_of_key.proofs.BoundLemmas.{same_key}
use Rattle.first_of_key.proofs.PathLemmas.{start, step}
use Rattle.first_of_key.proofs.search.end.Goals as goal

pub loop-depth-init : goal.loop-depth-init
loop-depth-init c =
    let t : Tree = tree c.args.heads.now c.args.nodes.now in
    let read : get_or c.args.heads.now c.head-head.result 0 ≡ head_at t c.head-head.result = get_or_default c.args.heads.now c.head-head.result 0 NONE c.head-head.ensures.within in
    start t c.args.key (get_or c.args.heads.now c.head-head.result 0) c.requires.searchable (read ∙ ap (head_at t) c.head-head.ensures.is) c.if-at.false

pub loop-depth-preserved : goal.loop-depth-preserved
loop-depth-preserved c =
    let t : Tree = tree c.args.heads.now c.args.nodes.now in
    let zeros : Node = record { key = no_key; zero = 0; one = 0 } in
    let read : get_or c.args.nodes.now c.loop-depth.at zeros ≡ node_at t c.loop-depth.at = get_or_default c.args.nodes.now c.loop-depth.at zeros (leaf no_key) c.loop-depth.invariant.within in
    step t c.args.key c.loop-depth.at c.loop-depth.depth c.link-next.result c.requires.searchable c.loop-depth.invariant
    (λ e. let same : IsTrue c.is_same.result = c.is_same.ensures.1 (ap (λ (n : Node). n.key) read ∙ e) in both_ways _ c.if-is_same.false same)
    (c.link-next.ensures ∙ (ap (λ (b : Bool). link b (get_or c.args.nodes.now c.loop-depth.at zeros)) c.side-one.ensures ∙ ap (link _) read))
    c.if-next.false

pub returns : goal.returns
returns c =
    let t : Tree = tree c.args.heads.now c.args.nodes.now in
    let here = c.loop-depth.invariant in
    (c.loop-depth.depth, here, same_key t c.args.key c.loop-depth.at c.loop-depth.depth (omega arith) c.requires.searchable c.requires.whole here)
