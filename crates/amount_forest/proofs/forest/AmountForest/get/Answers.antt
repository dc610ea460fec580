use Rattle.std.proofs.Common.{◌≡◌, ◌<◌, ◌≤◌, ℕ, List, length, ap, sym, ◌∙◌, subst, arith}
use Rattle.std.proofs.lemmas.List.{get_or_read}
use Rattle.least_tree.specs.Amounts.{amount_at}
use Rattle.amount_forest.specs.declared.node.Entry.{Entry}
use Rattle.amount_forest.specs.declared.node.Link.{Link}
use Rattle.amount_forest.specs.Nodes.{list_of, place_of}
use Rattle.amount_forest.proofs.SetLemmas.{amount_found, no_entry}
use Rattle.amount_forest.proofs.ForestLemmas.{in_range, list_now, some_last}
use Rattle.amount_forest.proofs.forest.AmountForest.get.Goals as goal

pub index-requires : goal.index-requires
index-requires c =
    let within = in_range c.self.inside c.args.self.now c.args.list c.self.view_is c.requires in
    omega arith

pub find-node-requires-clause-within : goal.find-node-requires-clause-within
find-node-requires-clause-within c =
    let s = c.self.inside in
    let found = some_last s c.args.self.now c.args.list c.index.result.now c.args.place c.self.invariant c.self.view_is c.requires c.index.ensures (subst (λ (n : ℕ). c.args.place < n) c.len.ensures c.if-place-len.false) in
    subst (λ (es : List Entry). c.index.result.now < length es) (sym c.deref.ensures.value) found.0.within

pub find-node-requires-clause-behind : goal.find-node-requires-clause-behind
find-node-requires-clause-behind c =
    let s = c.self.inside in
    let found = some_last s c.args.self.now c.args.list c.index.result.now c.args.place c.self.invariant c.self.view_is c.requires c.index.ensures (subst (λ (n : ℕ). c.args.place < n) c.len.ensures c.if-place-len.false) in
    subst (λ (ks : List Link). c.args.place ≤ place_of ks c.index.result.now) (sym c.deref-2.ensures.value) found.1

pub returns : goal.returns
returns c =
    let s = c.self.inside in
    let found = some_last s c.args.self.now c.args.list c.index.result.now c.args.place c.self.invariant c.self.view_is c.requires c.index.ensures (subst (λ (n : ℕ). c.args.place < n) c.len.ensures c.if-place-len.false) in
    let node : ℕ = c.find-node.result in
    let within : node < length s.entries.items = subst (λ (es : List Entry). node < length es) c.deref.ensures.value c.find-node.ensures.within in
    let list : list_of s.entries.items node ≡ list_of s.entries.items c.index.result.now =
    subst (λ (es : List Entry). list_of es node ≡ list_of es c.index.result.now) c.deref.ensures.value c.find-node.ensures.list in
    let place : place_of s.links.items node ≡ c.args.place = subst (λ (ks : List Link). place_of ks node ≡ c.args.place) c.deref-2.ensures.value c.find-node.ensures.place in
    ap (λ (x : Entry). x.amount) (get_or_read s.entries.items node c.index-2.result.now within c.index-2.ensures no_entry)
    ∙ (amount_found s.entries.items s.links.items node c.args.list c.args.place c.self.invariant.pool.linked within (list ∙ found.0.of_list) place
    ∙ ap (λ xs. amount_at xs c.args.place) (sym (list_now s c.args.self.now c.args.list c.self.view_is c.requires)))
