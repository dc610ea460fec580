use Rattle.std.proofs.Common.{ap}
use Rattle.rule_book.specs.Parties.{Listed}
use Rattle.rule_book.proofs.PartyFacts.{between_of}
use Rattle.rule_book.proofs.parties.Parties.of.Goals as goal

pub returns : goal.returns
returns c = λ k small h.
    between_of c.self.inside.keys.items c.as_slice-keys.result.now c.args.self.now.keys c.between.result.now c.args.n c.args.bank _ _ _ _
    (ap (λ (l : Listed). l.keys) c.self.view_is) c.as_slice-keys.ensures.value c.self.invariant.rising c.key.ensures c.key-2.ensures c.place-start.ensures.place c.place-end.ensures.place c.between.ensures k small h
