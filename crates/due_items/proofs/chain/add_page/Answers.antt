use Rattle.std.proofs.Common.{◌∙◌, arith}
use Rattle.due_items.proofs.PageFacts.{more-at}
use Rattle.due_items.proofs.chain.add_page.Goals as goal

pub loop-i-preserved : goal.loop-i-preserved
loop-i-preserved c = record {
  same = λ i. more-at c.loop-i.pages.items c.push_reserved.new.self.items c.push_reserved.ensures.items i ∙ c.loop-i.invariant.same i;
  long = omega (arith, c.push_reserved.ensures.len, c.loop-i.invariant.long);
  capacity = omega (arith, c.push_reserved.ensures.capacity, c.loop-i.invariant.capacity);
}

pub push_reserved-requires : goal.push_reserved-requires
push_reserved-requires c = let room = c.requires in let long = c.loop-i.invariant.long in let cap = c.loop-i.invariant.capacity in let test = c.loop-i-test.true in omega (arith, room, long, cap, test)
