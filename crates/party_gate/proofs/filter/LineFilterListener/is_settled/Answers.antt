use Rattle.std.proofs.Common.{◌∙◌}
use Rattle.party_gate.proofs.SeenFacts.{is_over}
use Rattle.party_gate.proofs.filter.LineFilterListener.is_settled.Goals as goal

pub returns : goal.returns
returns g c = λ bytes seen. c.is_over.ensures ∙ is_over g.N.PartyName.name c.args.self.now.keeper c.args.self.now.ending c.args.self.now.size bytes seen
