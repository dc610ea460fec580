use Rattle.std.proofs.Common.{◌+◌, ◌∙◌, sym, ap}
use Rattle.std.specs.Prelude.{bytes_eq, option_map}
use Rattle.batch_records.proofs.NumberFacts.{number_is}
use Rattle.batch_records.proofs.setup.number_named.Goals as goal

pub returns-in-Some : goal.returns-in-Some
returns-in-Some c = ap (option_map (λ k. k + 1)) (sym c.in-Some.is ∙ c.place_named.ensures.place) ∙ number_is (λ a. bytes_eq a.name c.args.name.now) c.args.accounts.now

pub returns-in-None : goal.returns-in-None
returns-in-None c = ap (option_map (λ k. k + 1)) (sym c.in-None.is ∙ c.place_named.ensures.place) ∙ number_is (λ a. bytes_eq a.name c.args.name.now) c.args.accounts.now
