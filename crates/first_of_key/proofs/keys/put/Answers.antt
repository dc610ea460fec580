use Rattle.std.proofs.Common.{◌≡◌, ◌++◌, [], ◌∷◌, ℕ, List, length, subst, sym, ap, ◌∙◌, arith}
use Rattle.first_of_key.specs.declared.node.Node.{Node}
use Rattle.first_of_key.specs.Paths.{IsSearchable, tree, leaf, heads_with, nodes_with}
use Rattle.first_of_key.proofs.FirstLemmas.{keys_of}
use Rattle.first_of_key.proofs.GrowLemmas.{searchable_more, keys_more, within_at}
use Rattle.first_of_key.proofs.keys.put.Goals as goal

pub hang-requires : goal.hang-requires
hang-requires c =
    within_at (tree c.args.heads.now c.args.nodes.now.items) c.args.key c.args.place c.requires.searchable c.requires.end

pub returns-clause-searchable : goal.returns-clause-searchable
returns-clause-searchable c =
    let old : List Node = c.args.nodes.now.items in
    let pushed = rw c.unwrap.ensures at c.push.ensures.items in
    let count : c.len-to.result ≡ length old = omega arith in
    let is : c.push.new.self.items ≡ nodes_with old c.args.place (length old) ++ leaf c.args.key ∷ [] =
    pushed
    ∙ (ap (λ (ns : List Node). ns ++ c.leaf.result ∷ [])
    (c.hang.ensures.nodes ∙ ap (nodes_with old c.args.place) count)
    ∙ ap (λ (n : Node). nodes_with old c.args.place (length old) ++ n ∷ []) c.leaf.ensures) in
    let heads : c.hang.new.heads ≡ heads_with c.args.heads.now c.args.place (length old) = c.hang.ensures.heads ∙ ap (heads_with c.args.heads.now c.args.place) count in
    subst (λ (hs : List ℕ). IsSearchable (tree hs c.push.new.self.items)) (sym heads)
    (subst (λ (ns : List Node). IsSearchable (tree (heads_with c.args.heads.now c.args.place (length old)) ns)) (sym is)
    (searchable_more (tree c.args.heads.now old) c.args.key c.args.place (omega arith) c.requires.searchable c.requires.whole c.requires.end))

pub returns-clause-keys : goal.returns-clause-keys
returns-clause-keys c =
    let old : List Node = c.args.nodes.now.items in
    let pushed = rw c.unwrap.ensures at c.push.ensures.items in
    let count : c.len-to.result ≡ length old = omega arith in
    let is : c.push.new.self.items ≡ nodes_with old c.args.place (length old) ++ leaf c.args.key ∷ [] =
    pushed
    ∙ (ap (λ (ns : List Node). ns ++ c.leaf.result ∷ [])
    (c.hang.ensures.nodes ∙ ap (nodes_with old c.args.place) count)
    ∙ ap (λ (n : Node). nodes_with old c.args.place (length old) ++ n ∷ []) c.leaf.ensures) in
    ap keys_of is ∙ keys_more (tree c.args.heads.now old) c.args.key c.args.place c.requires.end
