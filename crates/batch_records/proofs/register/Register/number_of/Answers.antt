use Rattle.std.proofs.Common.{◌∙◌, ◌+◌, ap, sym}
use Rattle.std.specs.Prelude.{option_map}
use Rattle.batch_records.specs.Made.{number_named}
use Rattle.batch_records.proofs.RegisterFacts.{number_of_name}
use Rattle.batch_records.proofs.register.Register.number_of.Goals as goal

pub returns-in-Some : goal.returns-in-Some
returns-in-Some c =
    ap (option_map (λ k. k + 1)) (sym c.in-Some.is)
    ∙ number_of_name c.self.inside.accounts.items c.self.inside.names.names c.args.name.now c.first.result c.self.invariant.of_names c.first.ensures
    ∙ ap (λ accounts. number_named accounts c.args.name.now) c.self.view_is

pub returns-in-None : goal.returns-in-None
returns-in-None c =
    ap (option_map (λ k. k + 1)) (sym c.in-None.is)
    ∙ number_of_name c.self.inside.accounts.items c.self.inside.names.names c.args.name.now c.first.result c.self.invariant.of_names c.first.ensures
    ∙ ap (λ accounts. number_named accounts c.args.name.now) c.self.view_is
