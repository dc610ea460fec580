use Rattle.std.proofs.Common.{arith}
use Rattle.due_items.proofs.ChainFacts.{points_first}
use Rattle.due_items.proofs.chain.Chain.empty.Goals as goal

pub invariant_of-result : goal.invariant_of-result
invariant_of-result c =
    (points_first c.in_ok-newest.newest c.in_ok-older.older.items c.in_ok-newest.ensures c.in_ok-older.ensures.items, (let len = c.in_ok-older.ensures.len in let cap = c.in_ok-older.ensures.capacity in omega (arith, len, cap)))

pub returns : goal.returns
returns c = λ i. record { newest = c.in_ok-newest.ensures i; older = c.in_ok-older.ensures.items i; room = c.args.room }
