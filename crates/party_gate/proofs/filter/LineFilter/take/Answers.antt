use Rattle.std.proofs.Common.{◌+◌, ◌++◌, ◌∷◌, [], ℕ, subst, sym}
use Rattle.party_gate.specs.Holding.{HasSeen}
use Rattle.party_gate.proofs.SeenFacts.{has_seen, tells_ok}
use Rattle.party_gate.proofs.filter.LineFilter.take.Goals as goal

pub returns-clause-told : goal.returns-clause-told
returns-clause-told g c = λ bytes seen. tells_ok g.N.PartyName.name bytes (bytes ++ c.args.b ∷ []) (g.S.Sink.state c.args.sink.now) (g.S.Sink.state c.pass.new.sink) c.in_ok-ending.ending _ (c.in_ok-ending.ensures.told bytes seen)

pub returns-clause-seen : goal.returns-clause-seen
returns-clause-seen g c = λ bytes seen.
    subst (λ (n : ℕ). HasSeen g.N.PartyName.name c.pass.new.self.keeper c.in_ok-ending.ending (n + 1) (bytes ++ c.args.b ∷ [])) (sym c.pass.ensures.size)
    (has_seen g.N.PartyName.name c.args.self.now.keeper c.pass.new.self.keeper c.args.self.now.ending c.in_ok-ending.ending c.args.self.now.size bytes c.args.b seen c.pass.ensures.name (c.in_ok-ending.ensures.ending bytes seen) (c.in_ok-ending.ensures.kept bytes seen))
