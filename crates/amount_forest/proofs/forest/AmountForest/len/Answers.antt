use Rattle.std.proofs.Common.{◌≡◌, length, ap, sym, ◌∙◌, arith}
use Rattle.std.proofs.lemmas.List.{get_or_read}
use Rattle.amount_forest.specs.declared.node.Link.{Link}
use Rattle.amount_forest.specs.Nodes.{place_of}
use Rattle.amount_forest.proofs.NodeLemmas.{place_small}
use Rattle.amount_forest.proofs.NewLemmas.{no_link}
use Rattle.amount_forest.proofs.ForestLemmas.{in_range, list_now, last_now, end_within, place_now}
use Rattle.amount_forest.proofs.forest.AmountForest.len.Goals as goal

pub index-last-requires : goal.index-last-requires
index-last-requires c =
    let s = c.self.inside in
    let within = in_range s c.args.self.now c.args.list c.self.view_is c.requires in
    omega arith

pub returns-then-last : goal.returns-then-last
returns-then-last c =
    let s = c.self.inside in
    let within = in_range s c.args.self.now c.args.list c.self.view_is c.requires in
    let last = last_now s c.args.list c.index-last.result.now c.self.invariant within c.index-last.ensures in
    sym (ap length (list_now s c.args.self.now c.args.list c.self.view_is c.requires) ∙ last.none c.if-last.true)

pub index-requires : goal.index-requires
index-requires c =
    let s = c.self.inside in
    let within = in_range s c.args.self.now c.args.list c.self.view_is c.requires in
    let last = last_now s c.args.list c.index-last.result.now c.self.invariant within c.index-last.ensures in
    let inner = end_within s c.args.list c.index-last.result.now c.self.invariant (last.some c.if-last.false) in
    omega arith

pub overflow_add-result : goal.overflow_add-result
overflow_add-result c =
    let s = c.self.inside in
    let within = in_range s c.args.self.now c.args.list c.self.view_is c.requires in
    let last = last_now s c.args.list c.index-last.result.now c.self.invariant within c.index-last.ensures in
    let end = last.some c.if-last.false in
    let inner = end_within s c.args.list c.index-last.result.now c.self.invariant end in
    let before = end.within in
    let low = place_small s.entries.items s.links.items c.index-last.result.now c.self.invariant.pool.linked before in
    let place : c.index.result.now.place ≡ place_of s.links.items c.index-last.result.now =
    ap (λ (k : Link). k.place) (get_or_read s.links.items c.index-last.result.now c.index.result.now inner c.index.ensures no_link) in
    let small = c.self.invariant.small in
    omega arith

pub returns : goal.returns
returns c =
    let s = c.self.inside in
    let within = in_range s c.args.self.now c.args.list c.self.view_is c.requires in
    let last = last_now s c.args.list c.index-last.result.now c.self.invariant within c.index-last.ensures in
    place_now s c.args.list c.index-last.result.now c.index.result.now c.self.invariant (last.some c.if-last.false) c.index.ensures
    ∙ sym (ap length (list_now s c.args.self.now c.args.list c.self.view_is c.requires))
