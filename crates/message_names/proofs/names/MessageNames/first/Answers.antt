use Rattle.std.proofs.Common.{◌≡◌, ◌∙◌, Option, ℕ, length, ap, refl, sym, subst}
use Rattle.std.specs.Prelude.{unwrap_or}
use Rattle.first_of_key.specs.declared.key.Key.{Key}
use Rattle.first_of_key.specs.First.{IsFirstOf}
use Rattle.message_names.specs.Names.{MessageName, Named, first_of}
use Rattle.message_names.specs.Stored.{first_from, named_of, sender_key}
use Rattle.message_names.proofs.PackedNames.{first_is_named, none_named, number_is}
use Rattle.message_names.proofs.names.MessageNames.first.Goals as goal

pub returns-in-Some : goal.returns-in-Some
returns-in-Some c =
    let n : MessageName = record { sender = c.args.sender.now; id = c.args.id.now } in
    let s = c.self.inside in
    let names = (named_of s).names in
    let key = subst (λ (k : Key). IsFirstOf s.senders.keys k c.first.result) c.sender_key.ensures.key c.first.ensures in
    let f : c.in-Some.first ≡ first_from names n.sender = number_is names s.senders.keys s.ids.keys c.self.invariant.packed n c.first.result c.in-Some.first (length s.ids.keys) c.sender_key.ensures.grammar key (ap (λ (o : Option ℕ). unwrap_or o (length s.ids.keys)) (sym c.in-Some.is)) refl in
    let found = subst (λ (k : Key). IsFirstOf s.ids.keys k c.first-in-Some.result) c.name_key.ensures.key c.first-in-Some.ensures in
    first_is_named names s.senders.keys s.ids.keys c.self.invariant.packed n c.first-in-Some.result c.in-Some.first c.name_key.ensures.grammar f found
    ∙ ap (λ (v : Named). first_of v.names n.sender n.id) c.self.view_is

pub returns-in-None : goal.returns-in-None
returns-in-None c =
    let n : MessageName = record { sender = c.args.sender.now; id = c.args.id.now } in
    let s = c.self.inside in
    let key = subst (λ (k : Key). IsFirstOf s.senders.keys k c.first.result) c.sender_key.ensures.key c.first.ensures in
    none_named (named_of s).names s.senders.keys s.ids.keys c.self.invariant.packed n c.sender_key.ensures.grammar (subst (IsFirstOf s.senders.keys (sender_key n.sender)) c.in-None.is key)
    ∙ ap (λ (v : Named). first_of v.names n.sender n.id) c.self.view_is
