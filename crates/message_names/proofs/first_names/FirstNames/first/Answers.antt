use Rattle.std.proofs.Common.{◌∙◌, ap, subst}
use Rattle.first_of_key.specs.declared.key.Key.{Key}
use Rattle.first_of_key.specs.First.{IsFirstOf}
use Rattle.message_names.specs.Names.{Listed, first_named}
use Rattle.message_names.specs.Stored.{names_in}
use Rattle.message_names.proofs.OneName.{first}
use Rattle.message_names.proofs.first_names.FirstNames.first.Goals as goal

pub returns : goal.returns
returns c =
    let keys = c.self.inside.keys.keys in
    first (names_in keys) keys c.self.invariant c.args.name.now c.first.result c.sender_key.ensures.grammar (subst (λ (k : Key). IsFirstOf keys k c.first.result) c.sender_key.ensures.key c.first.ensures)
    ∙ ap (λ (v : Listed). first_named v.names c.args.name.now) c.self.view_is
