use Rattle.std.proofs.Common.{arith}
use Rattle.due_items.proofs.PageFacts.{none-are, none-rows}
use Rattle.due_items.proofs.chain.Newest.new.Goals as goal

pub invariant_of-result : goal.invariant_of-result
invariant_of-result c = (none-are c.in_ok-top.top.items c.in_ok-pages.pages.items c.in_ok-top.ensures c.in_ok-pages.ensures.items, (let cap = c.in_ok-pages.ensures.capacity in omega (arith, cap)))

pub returns : goal.returns
returns c = none-rows c.in_ok-top.top.items c.in_ok-pages.pages.items c.in_ok-top.ensures
