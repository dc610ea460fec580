use Rattle.kept_port.proofs.StoryFacts.{unwritten_on, wrote_on}
use Rattle.kept_port.proofs.port.KeptPortSink.write.Goals as goal

pub invariant_of-self : goal.invariant_of-self
invariant_of-self g c =
    let both = unwritten_on g.P.Sink.state _ _ c.args.self.now.story c.args.piece.now c.args.self.now.since c.args.self.now.flows c.write.ensures.skip c.write.ensures.handed c.write.ensures.unread c.in_err-count.ensures.bytes c.in_err-count.ensures.real in
    record { since = both.0; flows = both.1 }

pub invariant_of-self-2 : goal.invariant_of-self-2
invariant_of-self-2 g c =
    let both = wrote_on g.P.Sink.state _ _ _ c.args.self.now.story _ _ c.args.piece.now c.of-before.ensures c.of-then.ensures c.args.self.now.since c.args.self.now.flows c.write.ensures.skip c.write.ensures.handed c.write.ensures.unread c.in_ok-count.ensures.bytes c.in_ok-count.ensures.real in
    record { since = both.0; flows = both.1 }
