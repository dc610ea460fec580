use Rattle.std.proofs.Common.{Option, ℕ, List, subst, sym, arith}
use Rattle.first_of_key.specs.declared.node.Node.{Node}
use Rattle.first_of_key.specs.First.{Entered, IsFirstOf}
use Rattle.first_of_key.specs.Paths.{tree, IsEnd}
use Rattle.first_of_key.proofs.FirstLemmas.{keys_of, number_is}
use Rattle.first_of_key.proofs.keys.FirstKeys.enter.Goals as goal

pub returns-clause-first : goal.returns-clause-first
returns-clause-first c =
    let s = c.self.invariant in
    let end : IsEnd (tree c.self.inside.heads.items c.self.inside.nodes.items) c.args.key c.end-place.result =
    subst (λ (ns : List Node). IsEnd (tree c.self.inside.heads.items ns) c.args.key c.end-place.result) c.deref-2.ensures.value
    (subst (λ (hs : List ℕ). IsEnd (tree hs c.deref-2.result.now) c.args.key c.end-place.result) c.deref.ensures.value c.end-place.ensures) in
    let is = number_is (tree c.self.inside.heads.items c.self.inside.nodes.items) c.args.key c.end-place.result (omega arith) s.searchable end in
    subst (λ (e : Entered). IsFirstOf e.keys c.args.key c.number.result) c.self.view_is
    (subst (λ (n : Option ℕ). IsFirstOf (keys_of c.self.inside.nodes.items) c.args.key n) (sym c.number.ensures) is)
