use Rattle.std.proofs.Common.{◌≡◌, ◌++◌, ◌∷◌, [], List, ℕ, IfOk, subst, sym}
use Rattle.outside_io.specs.Calls.{Puts}
use Rattle.outside_io.specs.TextLine.{line_feed}
use Rattle.party_gate.specs.Passing.{end_with, passed}
use Rattle.party_gate.proofs.KeeperFacts.{filled, full_passes, full_told, is_all, unfilled}
use Rattle.party_gate.proofs.line_keeper.LineKeeper.end.Goals as goal

pub returns-then-is_full-clause-told : goal.returns-then-is_full-clause-told
returns-then-is_full-clause-told g c = λ begun keeps. full_told c.args.self.now begun (g.S.Sink.state c.args.sink.now) _ (filled _ _ c.is_full.ensures.value c.if-is_full.true) keeps

pub returns-then-is_full-clause-ending : goal.returns-then-is_full-clause-ending
returns-then-is_full-clause-ending g c = λ begun keeps. sym (full_passes c.args.self.now begun keeps (filled _ _ c.is_full.ensures.value c.if-is_full.true)).1

pub returns-clause-told : goal.returns-clause-told
returns-clause-told g c = λ begun keeps.
    subst (λ (t : List ℕ). Puts (g.S.Sink.state c.args.sink.now) (g.S.Sink.state c.end_short.new.sink) (passed c.args.self.now.name (t ++ line_feed ∷ [])) c.end_short.result)
    (is_all c.args.self.now begun keeps (unfilled _ _ c.is_full.ensures.value c.if-is_full.false c.is_full.ensures.fits)) c.end_short.ensures.told

pub returns-clause-ending : goal.returns-clause-ending
returns-clause-ending g c = λ begun keeps.
    subst (λ (t : List ℕ). IfOk c.end_short.result (λ e. e ≡ end_with c.args.self.now.name (t ++ line_feed ∷ [])))
    (is_all c.args.self.now begun keeps (unfilled _ _ c.is_full.ensures.value c.if-is_full.false c.is_full.ensures.fits)) c.end_short.ensures.ending
