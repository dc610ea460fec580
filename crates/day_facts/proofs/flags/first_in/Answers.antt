use Rattle.std.proofs.Common.{arith}
use Rattle.day_facts.proofs.FirstFlags.{empty_row, past_flags}
use Rattle.day_facts.proofs.flags.first_in.Goals as goal

pub returns-in_default : goal.returns-in_default
returns-in_default c = empty_row c.args.ends.now c.args.items.now c.args.n c.requires c.in_default.ensures

pub returns-then-start-bound : goal.returns-then-start-bound
returns-then-start-bound c = past_flags c.args.ends.now c.args.items.now c.args.n _ c.requires c.in-Some.ensures (omega (arith, c.if-start-bound.true, c.bound.ensures))
