use Rattle.std.proofs.Common.{◌≡◌, ◌∙◌, ◌-◌, ◌++◌, ◌∷◌, [], ap, arith, length, refl, rules}
use Rattle.std.specs.Prelude.{vec_capacity, vec_len}
use Rattle.rule_book.specs.Rows.{cut}
use Rattle.rule_book.proofs.RowLemmas.{Cut, cut_next}
use Rattle.day_facts.specs.Listed.{row_pushed}
use Rattle.day_facts.specs.Lists.{no_places}
use Rattle.day_facts.proofs.ItemCounts.{few_places}
use Rattle.day_facts.proofs.places.PlaceRows.arrive.Goals as goal

made : (c : goal.After-push_reserved) → Cut (cut 0 c.self.inside.ends.items c.self.inside.items.items ++ no_places c.args.count ∷ []) c.push_reserved.new.self.items c.fill.new.items.items
made c = cut_next (cut 0 c.self.inside.ends.items c.self.inside.items.items) c.self.inside.ends.items c.push_reserved.new.self.items c.self.inside.items.items c.fill.new.items.items (no_places c.args.count) c.len.result
    (record { ends_there = c.self.invariant; rows_are = refl }) c.fill.ensures.items (search rules) c.push_reserved.ensures.items

pub invariant_of-self : goal.invariant_of-self
invariant_of-self c = (made c).ends_there

pub returns : goal.returns
returns c =
    let size : length (no_places c.args.count) ≡ c.args.count = few_places c.args.count in
    let ends : vec_capacity c.push_reserved.new.self - vec_len c.push_reserved.new.self ≡ vec_capacity c.self.inside.ends - vec_len c.self.inside.ends - 1 = omega arith in
    let items : vec_capacity c.fill.new.items - vec_len c.fill.new.items ≡ vec_capacity c.self.inside.items - vec_len c.self.inside.items - length (no_places c.args.count) = omega (arith, size) in
    (λ i. record { rows = (made c).rows_are i; room_for_rows = ends i; room_for_items = items i }) ∙ ap (row_pushed (no_places c.args.count)) c.self.view_is
