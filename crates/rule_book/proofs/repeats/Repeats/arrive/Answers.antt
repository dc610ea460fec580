use Rattle.std.proofs.Common.{◌∙◌, ◌+◌, ◌++◌, [], ◌∷◌, ℕ, ap}
use Rattle.std.specs.Prelude.{option_map}
use Rattle.batch_records.specs.Flat.{with_entries}
use Rattle.rule_book.specs.Repeated.{Repeated, first_number, name_of}
use Rattle.rule_book.proofs.RepeatLemmas.{below_count, day_more}
use Rattle.rule_book.proofs.repeats.Repeats.arrive.Goals as goal

pub number-requires : goal.number-requires
number-requires c = below_count c.self.inside.names.names c.args.message.now.sender c.args.message.now.id c.enter-first.result c.len-count.result c.enter-first.ensures.first c.len-count.ensures

pub returns-clause-day : goal.returns-clause-day
returns-clause-day c = λ day entries are.
    let m = with_entries c.args.message.now entries in
    let new : Repeated = record { names = c.enter-first.new.self.names; repeats = c.push_reserved.new.self.items; most = c.enter-first.new.self.most } in
    day_more day m c.args.self.now new are
    (c.enter-first.ensures.names ∙ ap (λ (r : Repeated). r.names ++ name_of m ∷ []) c.self.view_is)
    (c.push_reserved.ensures.items
    ∙ ((λ i. c.self.inside.items.items ++ (c.number.ensures ∙ ap (option_map (λ (j : ℕ). j + 1)) c.enter-first.ensures.first) i ∷ [])
    ∙ ap (λ (r : Repeated). r.repeats ++ first_number r.names m.sender m.id ∷ []) c.self.view_is))
