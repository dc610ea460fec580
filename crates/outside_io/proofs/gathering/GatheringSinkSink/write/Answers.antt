use Rattle.std.proofs.Common.{ap, true}
use Rattle.outside_io.proofs.GatheringLemmas.{gathers, stays_sure}
use Rattle.outside_io.proofs.gathering.GatheringSinkSink.write.Goals as goal

pub returns-then-self-clause-passed : goal.returns-then-self-clause-passed
returns-then-self-clause-passed g c =
    gathers _ _ _ _ _ _ c.args.piece.now _ (ap g.S.Sink.state c.gather.ensures.same) c.gather.ensures.same_reference c.gather.ensures.most c.gather.ensures.held

pub returns-in-Err-clause-sure : goal.returns-in-Err-clause-sure
returns-in-Err-clause-sure g c = stays_sure _ _ _ _ _ _ c.args.self.now.failed true _ _ c.in-Err.ensures.handed
