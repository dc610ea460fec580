use Rattle.kept_port.proofs.StoryFacts.{asked_on, unasked_on}
use Rattle.kept_port.proofs.port.KeptPortPort.read.Goals as goal

pub invariant_of-self : goal.invariant_of-self
invariant_of-self g c =
    let both = unasked_on g.P.Sink.state _ _ c.args.self.now.story _ _ c.args.self.now.since c.args.self.now.flows c.next.ensures.skip c.next.ensures.told c.next.ensures.unwritten c.in_err-count.ensures.handed c.in_err-count.ensures.asks in
    record { since = both.0; flows = both.1 }

pub invariant_of-self-2 : goal.invariant_of-self-2
invariant_of-self-2 g c =
    let both = asked_on g.P.Sink.state _ _ _ c.args.self.now.story _ _ _ c.of-before.ensures c.of-then.ensures c.args.self.now.since c.args.self.now.flows c.next.ensures.skip c.next.ensures.told c.next.ensures.unwritten c.in_ok-count.ensures.handed c.in_ok-count.ensures.asks in
    record { since = both.0; flows = both.1 }
