use Rattle.std.proofs.Common.{◌∙◌, sym}
use Rattle.party_gate.proofs.SeenFacts.{added_ends, added_keeps, added_tells, fed_ends_ok, fed_keeps_ok, fed_tells, over_ends, over_keeps, over_tells}
use Rattle.party_gate.proofs.filter.LineFilter.pass.Goals as goal

pub returns-then-is_some-clause-told : goal.returns-then-is_some-clause-told
returns-then-is_some-clause-told g c = λ bytes seen. over_tells g.N.PartyName.name c.args.self.now.keeper c.args.self.now.ending c.args.self.now.size bytes c.args.b (g.S.Sink.state c.args.sink.now) _ (sym c.is_some.ensures ∙ c.if-is_some.true) seen

pub returns-then-is_some-clause-ending : goal.returns-then-is_some-clause-ending
returns-then-is_some-clause-ending g c = λ bytes seen. over_ends g.N.PartyName.name c.args.self.now.keeper c.args.self.now.ending c.args.self.now.size bytes c.args.b (sym c.is_some.ensures ∙ c.if-is_some.true) seen

pub returns-then-is_some-clause-kept : goal.returns-then-is_some-clause-kept
returns-then-is_some-clause-kept g c = λ bytes seen none. over_keeps c.args.self.now.ending _ (sym c.is_some.ensures ∙ c.if-is_some.true) none

pub returns-then-b-eq10-clause-told : goal.returns-then-b-eq10-clause-told
returns-then-b-eq10-clause-told g c = λ bytes seen.
    fed_tells g.N.PartyName.name c.args.self.now.keeper c.args.self.now.ending c.args.self.now.size bytes c.args.b (g.S.Sink.state c.args.sink.now) (g.S.Sink.state c.end.new.sink) c.end.result (sym c.is_some.ensures ∙ c.if-is_some.false) c.if-b-eq10.true seen c.end.ensures.told

pub returns-then-b-eq10-clause-ending : goal.returns-then-b-eq10-clause-ending
returns-then-b-eq10-clause-ending g c = λ bytes seen.
    fed_ends_ok g.N.PartyName.name c.args.self.now.keeper c.args.self.now.ending c.args.self.now.size bytes c.args.b c.end.result (sym c.is_some.ensures ∙ c.if-is_some.false) c.if-b-eq10.true seen c.end.ensures.ending

pub returns-then-b-eq10-clause-kept : goal.returns-then-b-eq10-clause-kept
returns-then-b-eq10-clause-kept g c = λ bytes seen. fed_keeps_ok bytes c.args.b c.end.new.self c.end.result c.if-b-eq10.true c.end.ensures.none

pub returns-clause-told : goal.returns-clause-told
returns-clause-told g c = λ bytes seen. added_tells g.N.PartyName.name bytes c.args.b (g.S.Sink.state c.args.sink.now) _ c.if-b-eq10.false

pub returns-clause-ending : goal.returns-clause-ending
returns-clause-ending g c = λ bytes seen.
    added_ends g.N.PartyName.name c.args.self.now.keeper c.args.self.now.ending c.args.self.now.size bytes c.args.b c.add.result (sym c.is_some.ensures ∙ c.if-is_some.false) c.if-b-eq10.false seen c.add.ensures.ending

pub returns-clause-kept : goal.returns-clause-kept
returns-clause-kept g c = λ bytes seen.
    added_keeps g.N.PartyName.name c.args.self.now.keeper c.add.new.self c.args.self.now.ending c.args.self.now.size bytes c.args.b c.add.result (sym c.is_some.ensures ∙ c.if-is_some.false) c.if-b-eq10.false seen c.add.ensures.next
