use Rattle.std.proofs.Common.{◌∙◌, true, false, sym}
use Rattle.durable_day.proofs.NextFacts.{time_told}
use Rattle.durable_day.proofs.onward.time_want.Goals as goal

pub returns-then-is_some : goal.returns-then-is_some
returns-then-is_some c = time_told c.args.floor.now.journal.history _ _ true c.next_time.ensures (sym c.is_some.ensures ∙ c.if-is_some.true)

pub returns-else-is_some : goal.returns-else-is_some
returns-else-is_some c = time_told c.args.floor.now.journal.history _ _ false c.next_time.ensures (sym c.is_some.ensures ∙ c.if-is_some.false)
