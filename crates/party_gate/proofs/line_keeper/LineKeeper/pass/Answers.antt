use Rattle.party_gate.proofs.KeeperFacts.{none_passed}
use Rattle.party_gate.proofs.line_keeper.LineKeeper.pass.Goals as goal

pub returns-in-Others-clause-told : goal.returns-in-Others-clause-told
returns-in-Others-clause-told g c =
    none_passed c.args.self.now.name c.args.self.now.line.items c.as_bytes.result.now c.as_slice-line.result.now (g.S.Sink.state c.args.sink.now) _ c.as_bytes.ensures.value c.as_slice-line.ensures.value c.in-Others.ensures
