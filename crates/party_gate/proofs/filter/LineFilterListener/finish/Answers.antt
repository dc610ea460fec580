use Rattle.std.proofs.Common.{◌∙◌, [], append-nil, ap, sym}
use Rattle.outside_io.proofs.PutLemmas.{has_put_none, puts_all}
use Rattle.party_gate.specs.Passing.{status_of, told_to}
use Rattle.party_gate.proofs.SeenFacts.{ends_so}
use Rattle.party_gate.proofs.filter.LineFilterListener.finish.Goals as goal

pub returns : goal.returns
returns g c = λ bytes seen. record {
  text = [];
  is = sym (append-nil (told_to g.N.PartyName.name bytes));
  status = c.status_of.ensures ∙ ap (status_of c.args.self.ending) c.is_long.ensures ∙ ends_so g.N.PartyName.name c.args.self.keeper c.args.self.ending c.args.self.size bytes seen;
  put = puts_all (g.S.Sink.state c.args._sink.now) (g.S.Sink.state c.args._sink.now) [] _ (has_put_none (g.S.Sink.state c.args._sink.now));
}
