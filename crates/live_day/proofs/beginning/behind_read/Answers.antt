use Rattle.std.proofs.Common.{arith, ℕ, List, refl, subst}
use Rattle.live_day.specs.Beginnings.{IsPortion}
use Rattle.live_day.specs.declared.beginning.Portion.TheVariants as portions
use Rattle.live_day.specs.Resumed.{longest_output}
use Rattle.live_day.proofs.HeaderFacts.{begin_whole, output_word, places_inside, rest_of}
use Rattle.live_day.proofs.beginning.behind_read.Goals as goal

pub overflow_add-result : goal.overflow_add-result
overflow_add-result c =
    let inside = places_inside c.args.input.now c.args.read c.args.read_end c.in-Whole.start c.in-Whole.end c.requires (c.in-Whole.ensures output_word refl) in
    omega (arith, inside.0, c.well_formed)

pub overflow_add-result-in-Whole : goal.overflow_add-result-in-Whole
overflow_add-result-in-Whole c =
    let inside = places_inside c.args.input.now c.args.read c.args.read_end c.in-Whole.start c.in-Whole.end c.requires (c.in-Whole.ensures output_word refl) in
    omega (arith, inside.1, c.well_formed)

pub returns-in-Short : goal.returns-in-Short
returns-in-Short c = begin_whole c.args.input.now c.args.read c.args.read_end portions.Short c.requires (subst (λ (t : List ℕ). IsPortion output_word longest_output t portions.Short) (rest_of c.args.input.now c.args.read_end) (c.in-Short.ensures output_word refl))

pub returns-in-NoHeader : goal.returns-in-NoHeader
returns-in-NoHeader c = begin_whole c.args.input.now c.args.read c.args.read_end portions.NoHeader c.requires (subst (λ (t : List ℕ). IsPortion output_word longest_output t portions.NoHeader) (rest_of c.args.input.now c.args.read_end) (c.in-NoHeader.ensures output_word refl))

pub returns-in-Whole : goal.returns-in-Whole
returns-in-Whole c = begin_whole c.args.input.now c.args.read c.args.read_end (portions.Whole c.in-Whole.start c.in-Whole.end) c.requires (subst (λ (t : List ℕ). IsPortion output_word longest_output t (portions.Whole c.in-Whole.start c.in-Whole.end)) (rest_of c.args.input.now c.args.read_end) (c.in-Whole.ensures output_word refl))
