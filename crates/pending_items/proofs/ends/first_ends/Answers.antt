use Rattle.pending_items.proofs.EndFacts.{first_all, first_more}
use Rattle.std.proofs.Common.{arith}
use Rattle.pending_items.proofs.ends.first_ends.Goals as goal

pub loop-n-preserved : goal.loop-n-preserved
loop-n-preserved c =
    let less = c.push.ensures.room in
    let before = c.loop-n.invariant.room in
    record {
      times = first_more c.args.setting.now.day c.loop-n.ends.times c.push.new.self.times c.loop-n.n _ c.loop-n.invariant.times c.next_end.ensures c.push.ensures.times;
      room = omega (arith, less, before);
    }

pub returns : goal.returns
returns c = first_all c.args.setting.now.day c.loop-n.ends.times c.loop-n.n (omega (arith, c.loop-n-test.false, c.loop-n.auto.n-end, c.message_count-count.ensures.count)) c.loop-n.invariant.times
