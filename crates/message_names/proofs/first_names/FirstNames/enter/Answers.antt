use Rattle.std.proofs.Common.{◌∙◌, ◌++◌, [], ◌∷◌, ap}
use Rattle.message_names.specs.Names.{Listed}
use Rattle.message_names.specs.Stored.{names_in}
use Rattle.message_names.proofs.OneName.{AreMore, are_more}
use Rattle.message_names.proofs.first_names.FirstNames.enter.Goals as goal

after : (c : goal.After-enter) → AreMore (names_in c.self.inside.keys.keys) c.args.name.now c.enter.new.self.keys
after c = are_more (names_in c.self.inside.keys.keys) c.self.inside.keys.keys c.self.invariant c.args.name.now c.enter.new.self.keys c.sender_key.ensures.grammar
    (c.enter.ensures.keys ∙ ap (λ k. c.self.inside.keys.keys ++ k ∷ []) c.sender_key.ensures.key)

pub invariant_of-self : goal.invariant_of-self
invariant_of-self c = (after c).packed

pub returns-clause-names : goal.returns-clause-names
returns-clause-names c = (after c).view ∙ ap (λ (v : Listed). v.names ++ c.args.name.now ∷ []) c.self.view_is
