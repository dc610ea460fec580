use Rattle.std.proofs.Common.{ℕ, refl, subst}
use Rattle.std.specs.List.Sorted.{IsStrictlyIncreasing}
use Rattle.amount_forest.specs.Lists.{numbers_of}
use Rattle.amount_forest.specs.Nodes.{place_of}
use Rattle.amount_forest.specs.Places.{IsPlace}
use Rattle.amount_forest.proofs.PlaceLemmas.{own_place}
use Rattle.amount_forest.proofs.search.first_place.Goals as goal

pub returns : goal.returns
returns c =
    let es = c.args.entries.now in
    let ks = c.args.links.now in
    let found = c.loop-to.invariant in
    subst (λ (l : ℕ). IsStrictlyIncreasing (numbers_of l es) → IsPlace (numbers_of l es) c.args.number (place_of ks c.loop-to.at)) found.of_list
    (own_place es ks c.loop-to.at c.args.number c.requires.linked found.within found.no_less c.in_default.ensures (place_of ks c.loop-to.at) refl)
