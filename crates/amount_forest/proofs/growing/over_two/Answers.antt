use Rattle.std.proofs.Common.{◌≡◌, ◌<◌, ◌+◌, ℕ, List, length, ap, sym, ◌∙◌, subst, arith}
use Rattle.std.proofs.lemmas.List.{get_or_read}
use Rattle.amount_forest.specs.declared.node.Entry.{Entry}
use Rattle.amount_forest.specs.declared.node.Link.{Link}
use Rattle.amount_forest.specs.Nodes.{IsNew, LeadsTo, link_at, list_of, place_of, start_of, jump_of, raised}
use Rattle.amount_forest.proofs.NodeLemmas.{place_small}
use Rattle.amount_forest.proofs.NewLemmas.{new_over, link_over, no_link}
use Rattle.amount_forest.proofs.growing.over_two.Goals as goal

pub overflow_add-result : goal.overflow_add-result
overflow_add-result c =
    let ks : List Link = c.args.links.now.items in
    let small = place_small c.args.entries.now ks c.args.last c.requires.linked c.requires.last.within in
    let within : c.args.last < length c.args.entries.now = c.requires.last.within in
    let size : length ks ≡ length c.args.entries.now = c.requires.linked.size in
    let first : c.index-first.result.now ≡ link_at ks c.args.last = get_or_read ks c.args.last c.index-first.result.now (omega arith) c.index-first.ensures no_link in
    let place : c.index-first.result.now.place ≡ place_of ks c.args.last = ap (λ (k : Link). k.place) first in
    omega arith

pub returns-clause-new : goal.returns-clause-new
returns-clause-new c =
    let es : List Entry = c.args.entries.now in
    let ks : List Link = c.args.links.now.items in
    let last : ℕ = c.args.last in
    let list : ℕ = list_of es last in
    let a : Link = c.index-first.result.now in
    let b : Link = c.index-second.result.now in
    let to : ℕ = c.len-to.result in
    let two : ℕ = jump_of ks last in
    let within : last < length es = c.requires.last.within in
    let size : length ks ≡ length es = c.requires.linked.size in
    let leads : LeadsTo es ks last two (start_of ks last) = c.requires.linked.jump last within c.requires.pair in
    let earlier : two < last = leads.earlier in
    let first : a ≡ link_at ks last = get_or_read ks last a (omega arith) c.index-first.ensures no_link in
    let jump : a.jump ≡ two = ap (λ (k : Link). k.jump) first in
    let second : b ≡ link_at ks two = get_or_read ks a.jump b (omega arith) c.index-second.ensures no_link ∙ ap (link_at ks) jump in
    let count : to ≡ length ks = omega arith in
    let link : link_over (a.place + 1) b.start last b.jump ≡ link_over (place_of ks last + 1) (start_of ks two) last (jump_of ks two) =
    ap (λ (k : Link). link_over (k.place + 1) b.start last b.jump) first ∙ ap (λ (k : Link). link_over (place_of ks last + 1) k.start last k.jump) second in
    let links : c.raise-2.new.links.items ≡ raised (raised ks last (length ks)) two (length ks) =
    c.raise-2.ensures.items
    ∙ (ap (λ (hs : List Link). raised hs a.jump to) c.raise.ensures.items
    ∙ (ap (λ (j : ℕ). raised (raised ks last to) j to) jump ∙ ap (λ (n : ℕ). raised (raised ks last n) two n) count)) in
    subst (λ (hs : List Link). IsNew es ks hs list (link_over (a.place + 1) b.start last b.jump)) (sym links)
    (subst (λ (k : Link). IsNew es ks (raised (raised ks last (length ks)) two (length ks)) list k) (sym link)
    (new_over es ks list last c.requires.linked c.requires.last c.requires.pair))
