use Rattle.std.proofs.Common.{refl}
use Rattle.live_day.proofs.PieceFacts.{all_told, none_taken, one_taken, told_in_part}
use Rattle.live_day.proofs.listening.LiveDayListener.hear.Goals as goal

pub loop-b-init : goal.loop-b-init
loop-b-init g c = none_taken g.D.Hearer.has_heard c.args.self.now (g.S.Sink.state c.args.sink.now) c.args.piece.now

pub returns-in_err-take-clause-told : goal.returns-in_err-take-clause-told
returns-in_err-take-clause-told g c =
    told_in_part g.D.Hearer.has_heard c.args.self.now c.loop-b.self _ _ _ c.args.piece.now c.loop-b.b-index _ _ _ c.from_residual.ensures.0 c.loop-b-test.true refl c.loop-b.invariant c.in_err-take.ensures.told

pub loop-b-preserved : goal.loop-b-preserved
loop-b-preserved g c =
    one_taken g.D.Hearer.has_heard c.args.self.now c.loop-b.self c.take.new.self _ _ _ c.args.piece.now c.loop-b.b-index _ _ c.loop-b-test.true refl c.loop-b.invariant c.in_ok-take.ensures.told c.in_ok-take.ensures.heard

pub returns-clause-told : goal.returns-clause-told
returns-clause-told g c = all_told g.D.Hearer.has_heard c.args.self.now c.loop-b.self _ _ c.args.piece.now c.loop-b.b-index _ c.loop-b-test.false c.loop-b.invariant
