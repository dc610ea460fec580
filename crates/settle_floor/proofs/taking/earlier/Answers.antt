use Rattle.std.proofs.Common.{sym}
use Rattle.settle_floor.proofs.taking.earlier.Goals as goal

pub returns-then-is_next : goal.returns-then-is_next
returns-then-is_next g c = sym (c.requires c.if-is_next.true)
