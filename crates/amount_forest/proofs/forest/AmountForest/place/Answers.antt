use Rattle.std.proofs.Common.{◌≡◌, ◌∙◌, ℕ, List, ap, arith, length, subst, sym}
use Rattle.std.specs.List.Sorted.{IsStrictlyIncreasing}
use Rattle.amount_forest.specs.declared.node.Entry.{Entry}
use Rattle.amount_forest.specs.declared.node.Link.{Link}
use Rattle.amount_forest.specs.Lists.{numbers_at, numbers_of}
use Rattle.amount_forest.specs.Nodes.{IsEnd, list_of}
use Rattle.amount_forest.specs.Places.{IsPlace}
use Rattle.amount_forest.proofs.ForestLemmas.{in_range, last_now, numbers_now}
use Rattle.amount_forest.proofs.PlaceLemmas.{empty_place, number_count}
use Rattle.amount_forest.proofs.forest.AmountForest.place.Goals as goal

pub index-last-requires : goal.index-last-requires
index-last-requires c =
    let within = in_range c.self.inside c.args.self.now c.args.list c.self.view_is c.requires in
    omega arith

pub returns-then-last : goal.returns-then-last
returns-then-last c = λ up.
    let s = c.self.inside in
    let within = in_range s c.args.self.now c.args.list c.self.view_is c.requires in
    let last = last_now s c.args.list c.index-last.result.now c.self.invariant within c.index-last.ensures in
    empty_place (numbers_at c.args.self.now.numbers c.args.list) c.args.number
    (ap length (numbers_now s c.args.self.now c.args.list c.self.view_is c.requires) ∙ (number_count s.entries.items c.args.list ∙ last.none c.if-last.true))

pub place-requires-clause-last : goal.place-requires-clause-last
place-requires-clause-last c =
    let s = c.self.inside in
    let within = in_range s c.args.self.now c.args.list c.self.view_is c.requires in
    let last : ℕ = c.index-last.result.now in
    let end : IsEnd s.entries.items s.links.items c.args.list last = (last_now s c.args.list last c.self.invariant within c.index-last.ensures).some c.if-last.false in
    subst (λ (xs : List Entry). IsEnd xs c.deref-2.result.now (list_of xs last) last) (sym c.deref.ensures.value)
    (subst (λ (xs : List Link). IsEnd s.entries.items xs (list_of s.entries.items last) last) (sym c.deref-2.ensures.value)
    (subst (λ (l : ℕ). IsEnd s.entries.items s.links.items l last) (sym end.of_list) end))

pub returns : goal.returns
returns c =
    let s = c.self.inside in
    let within = in_range s c.args.self.now c.args.list c.self.view_is c.requires in
    let last : ℕ = c.index-last.result.now in
    let end : IsEnd s.entries.items s.links.items c.args.list last = (last_now s c.args.list last c.self.invariant within c.index-last.ensures).some c.if-last.false in
    let is : numbers_of (list_of s.entries.items last) s.entries.items ≡ numbers_at c.args.self.now.numbers c.args.list =
    ap (λ (l : ℕ). numbers_of l s.entries.items) end.of_list ∙ sym (numbers_now s c.args.self.now c.args.list c.self.view_is c.requires) in
    subst (λ (ns : List ℕ). IsStrictlyIncreasing ns → IsPlace ns c.args.number c.place.result) is
    (subst (λ (xs : List Entry). IsStrictlyIncreasing (numbers_of (list_of xs last) xs) → IsPlace (numbers_of (list_of xs last) xs) c.args.number c.place.result) c.deref.ensures.value c.place.ensures)
