use Rattle.std.proofs.Common.{arith}
use Rattle.account_book.proofs.Answered.{openings-more}
use Rattle.account_book.proofs.till.OneTill.in_room.Goals as goal

pub loop-i-preserved : goal.loop-i-preserved
loop-i-preserved c = let next = openings-more c.args.book.now.accounts c.loop-i.i (omega arith) in (cc (c.push_reserved.ensures.items), omega (arith, c.push_reserved.ensures.capacity, c.loop-i.invariant.1))
