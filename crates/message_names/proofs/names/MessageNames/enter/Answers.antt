use Rattle.std.proofs.Common.{◌≡◌, ◌∙◌, ◌++◌, [], ◌∷◌, List, ap, sym, subst, arith}
use Rattle.first_of_key.specs.declared.key.Key.{Key}
use Rattle.first_of_key.specs.First.{IsFirstOf}
use Rattle.message_names.specs.Names.{MessageName, Named, first_of}
use Rattle.message_names.specs.Stored.{AreLinked, first_from, linked, named_of}
use Rattle.message_names.proofs.LinkLemmas.{linked_more}
use Rattle.message_names.proofs.PackedNames.{AreMore, are_more, first_is_named, number_is}
use Rattle.message_names.proofs.names.MessageNames.enter.Goals as goal

abbrev name : goal.After-enter-2 → MessageName
name c = record { sender = c.args.sender.now; id = c.args.id.now }

abbrev names : goal.After-enter-2 → List MessageName
names c = (named_of c.self.inside).names

number : (c : goal.After-enter-2) → c.unwrap_or-first.result ≡ first_from (names c) c.args.sender.now
number c = number_is (names c) c.self.inside.senders.keys c.self.inside.ids.keys c.self.invariant.packed (name c) c.enter.result c.unwrap_or-first.result c.len-count.result c.sender_key.ensures.grammar
    (subst (λ (k : Key). IsFirstOf c.self.inside.senders.keys k c.enter.result) c.sender_key.ensures.key c.enter.ensures.first) c.unwrap_or-first.ensures c.len-count.ensures

after : (c : goal.After-enter-2) → AreMore (names c) (name c) c.enter.new.self.keys c.enter-2.new.self.keys
after c = are_more (names c) c.self.inside.senders.keys c.self.inside.ids.keys c.self.invariant.packed (name c) c.unwrap_or-first.result c.enter.new.self.keys c.enter-2.new.self.keys
    c.sender_key.ensures.grammar c.name_key.ensures.grammar
    (c.enter.ensures.keys ∙ ap (λ k. c.self.inside.senders.keys ++ k ∷ []) c.sender_key.ensures.key)
    (c.enter-2.ensures.keys ∙ ap (λ k. c.self.inside.ids.keys ++ k ∷ []) c.name_key.ensures.key)
    (number c)

pub invariant_of-self : goal.invariant_of-self
invariant_of-self c = record {
  packed = (after c).packed;
  most = c.enter-2.ensures.most ∙ (c.self.invariant.most ∙ sym c.enter.ensures.most);
  linked = subst (λ ns. AreLinked ns c.link.new.links.items) (sym (after c).view)
      (subst (AreLinked (names c ++ name c ∷ [])) (sym (c.link.ensures.items ∙ ap (λ f. linked f c.self.inside.links.items) (number c)))
      (linked_more (names c) c.self.inside.links.items c.self.invariant.linked (name c)));
  room = omega (arith, c.link.ensures.room, c.self.invariant.room, c.enter.ensures.most);
}

pub returns-clause-names : goal.returns-clause-names
returns-clause-names c = (after c).view ∙ ap (λ (v : Named). v.names ++ name c ∷ []) c.self.view_is

pub returns-clause-first : goal.returns-clause-first
returns-clause-first c =
    first_is_named (names c) c.self.inside.senders.keys c.self.inside.ids.keys c.self.invariant.packed (name c) c.enter-2.result c.unwrap_or-first.result c.name_key.ensures.grammar (number c)
    (subst (λ (k : Key). IsFirstOf c.self.inside.ids.keys k c.enter-2.result) c.name_key.ensures.key c.enter-2.ensures.first)
    ∙ ap (λ (v : Named). first_of v.names c.args.sender.now c.args.id.now) c.self.view_is
