use Rattle.std.proofs.Common.{sym}
use Rattle.party_gate.proofs.RunFacts.{keeps_asked, keeps_none}
use Rattle.party_gate.proofs.top.gate.Goals as goal

pub returns-in-Some : goal.returns-in-Some
returns-in-Some g c = keeps_asked c.args.words.now c.in-Some.name _ (sym c.in-Some.ensures) c.pass_on.ensures

pub returns-in-None : goal.returns-in-None
returns-in-None g c = keeps_none c.args.words.now _ (sym c.in-None.ensures) c.refuse_words.ensures
