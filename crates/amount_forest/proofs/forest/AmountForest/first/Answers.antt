use Rattle.std.proofs.Common.{◌<◌, ◌≤◌, ℕ, List, ap, sym, ◌∙◌, subst, arith}
use Rattle.least_tree.specs.Amounts.{fits_at}
use Rattle.number_set.specs.Next.{IsNext}
use Rattle.amount_forest.specs.declared.node.Entry.{Entry}
use Rattle.amount_forest.specs.declared.node.Link.{Link}
use Rattle.amount_forest.specs.Lists.{amounts_of, list_at}
use Rattle.amount_forest.specs.Nodes.{IsEnd, list_of, place_of}
use Rattle.amount_forest.proofs.SearchLemmas.{next_within}
use Rattle.amount_forest.proofs.ForestLemmas.{in_range, list_now, some_last}
use Rattle.amount_forest.proofs.forest.AmountForest.first.Goals as goal

pub index-requires : goal.index-requires
index-requires c =
    let within = in_range c.self.inside c.args.self.now c.args.list c.self.view_is c.requires in
    omega arith

pub first-requires-clause-last : goal.first-requires-clause-last
first-requires-clause-last c =
    let s = c.self.inside in
    let found = some_last s c.args.self.now c.args.list c.index.result.now c.args.from c.self.invariant c.self.view_is c.requires c.index.ensures (subst (λ (n : ℕ). c.args.from < n) c.len.ensures c.if-from-len.false) in
    let last : ℕ = c.index.result.now in
    subst (λ (xs : List Entry). IsEnd xs c.deref-2.result.now (list_of xs last) last) (sym c.deref.ensures.value)
    (subst (λ (xs : List Link). IsEnd s.entries.items xs (list_of s.entries.items last) last) (sym c.deref-2.ensures.value)
    (subst (λ (l : ℕ). IsEnd s.entries.items s.links.items l last) (sym found.0.of_list) found.0))

pub first-requires-clause-from : goal.first-requires-clause-from
first-requires-clause-from c =
    let s = c.self.inside in
    let found = some_last s c.args.self.now c.args.list c.index.result.now c.args.from c.self.invariant c.self.view_is c.requires c.index.ensures (subst (λ (n : ℕ). c.args.from < n) c.len.ensures c.if-from-len.false) in
    let last : ℕ = c.index.result.now in
    subst (λ (xs : List Link). c.args.from ≤ place_of xs last) (sym c.deref-2.ensures.value) found.1

pub returns-clause-within : goal.returns-clause-within
returns-clause-within c =
    let s = c.self.inside in
    let found = some_last s c.args.self.now c.args.list c.index.result.now c.args.from c.self.invariant c.self.view_is c.requires c.index.ensures (subst (λ (n : ℕ). c.args.from < n) c.len.ensures c.if-from-len.false) in
    let last : ℕ = c.index.result.now in
    let next : IsNext (fits_at (amounts_of (list_of s.entries.items last) s.entries.items) c.args.most) c.args.from c.first.result =
    subst (λ (xs : List Entry). IsNext (fits_at (amounts_of (list_of xs last) xs) c.args.most) c.args.from c.first.result) c.deref.ensures.value c.first.ensures in
    let seen : IsNext (fits_at (list_at c.args.self.now.lists c.args.list) c.args.most) c.args.from c.first.result =
    subst (λ xs. IsNext (fits_at xs c.args.most) c.args.from c.first.result)
    (ap (λ (l : ℕ). amounts_of l s.entries.items) found.0.of_list ∙ sym (list_now s c.args.self.now c.args.list c.self.view_is c.requires)) next in
    next_within (list_at c.args.self.now.lists c.args.list) c.args.most c.args.from c.first.result seen

pub returns-clause-first : goal.returns-clause-first
returns-clause-first c =
    let s = c.self.inside in
    let found = some_last s c.args.self.now c.args.list c.index.result.now c.args.from c.self.invariant c.self.view_is c.requires c.index.ensures (subst (λ (n : ℕ). c.args.from < n) c.len.ensures c.if-from-len.false) in
    let last : ℕ = c.index.result.now in
    let next : IsNext (fits_at (amounts_of (list_of s.entries.items last) s.entries.items) c.args.most) c.args.from c.first.result =
    subst (λ (xs : List Entry). IsNext (fits_at (amounts_of (list_of xs last) xs) c.args.most) c.args.from c.first.result) c.deref.ensures.value c.first.ensures in
    let seen : IsNext (fits_at (list_at c.args.self.now.lists c.args.list) c.args.most) c.args.from c.first.result =
    subst (λ xs. IsNext (fits_at xs c.args.most) c.args.from c.first.result)
    (ap (λ (l : ℕ). amounts_of l s.entries.items) found.0.of_list ∙ sym (list_now s c.args.self.now c.args.list c.self.view_is c.requires)) next in
    seen
