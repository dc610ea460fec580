use Rattle.std.proofs.Common.{◌≡◌, ◌+◌, ◌-◌, ◌∙◌, sym, ◌<◌, ◌∷◌, length, reverse, ap, arith, subst, take, drop}
use Rattle.std.proofs.lemmas.List.{length-reverse}
use Rattle.commit_journal.specs.Kept.{Kept}
use Rattle.commit_journal.specs.Histories.{oldest}
use Rattle.commit_journal.specs.Stored.{unstack}
use Rattle.commit_journal.proofs.StoredLemmas.{length-unstack, oldest-next}
use Rattle.commit_journal.proofs.journal.Journal.line_after.Goals as goal

pub index-one-requires : goal.index-one-requires
index-one-requires c =
    let j = c.self.inside in
    let view = ap (λ (k : Kept). length k.history) c.self.view_is in
    omega (arith, view, j.stored.ok, length-unstack (reverse j.stored.items) (reverse j.moves.items), length-reverse j.stored.items)

pub slice_bounds-mine-end : goal.slice_bounds-mine-end
slice_bounds-mine-end c =
    let j = c.self.inside in
    let view = ap (λ (k : Kept). length k.history) c.self.view_is in
    let low : c.args.place < length j.stored.items = omega (arith, view, length-unstack (reverse j.stored.items) (reverse j.moves.items), length-reverse j.stored.items) in
    let next = oldest-next j.stored.items j.moves.items c.args.place c.index-one.result.now low c.index-one.ensures c.self.invariant.stacked (omega (arith, c.self.invariant, j.moves.ok)) in
    let within = next.0 in
    omega (arith, within, ap length c.as_slice-moves.ensures.value)

pub returns : goal.returns
returns c =
    let j = c.self.inside in
    let view = ap (λ (k : Kept). length k.history) c.self.view_is in
    let low : c.args.place < length j.stored.items = omega (arith, view, length-unstack (reverse j.stored.items) (reverse j.moves.items), length-reverse j.stored.items) in
    let one = c.index-one.result.now in
    let next = oldest-next j.stored.items j.moves.items c.args.place one low c.index-one.ensures c.self.invariant.stacked (omega (arith, c.self.invariant, j.moves.ok)) in
    let count : one.from + one.count - one.from ≡ one.count = omega arith in
    let mine : take (one.from + one.count - one.from) (drop one.from c.as_slice-moves.result.now) ≡ take one.count (drop one.from j.moves.items) = ap (λ n. take n (drop one.from c.as_slice-moves.result.now)) count ∙ ap (λ l. take one.count (drop one.from l)) c.as_slice-moves.ensures.value in
    subst (λ (k : Kept). oldest k.history (c.args.place + 1) ≡ record { head = one.head; moves = take (one.from + one.count - one.from) (drop one.from c.as_slice-moves.result.now) } ∷ oldest k.history c.args.place) c.self.view_is
    (next.1 ∙ ap (λ ms. record { head = one.head; moves = ms } ∷ oldest (unstack (reverse j.stored.items) (reverse j.moves.items)) c.args.place) (sym mine))
